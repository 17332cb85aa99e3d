use Rattle.worked_calls.proofs.Toolkit.{toolkit-ends}
use Rattle.worked_calls.proofs.toolkit_ends.Goals as goal

pub returns : goal.returns
returns c = toolkit-ends
