use Rattle.utf8_shown.proofs.Begins.{hidden-begins}
use Rattle.utf8_shown.proofs.hidden_begins.Goals as goal

pub returns : goal.returns
returns c = hidden-begins
