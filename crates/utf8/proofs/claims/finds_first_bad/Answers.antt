use Rattle.utf8.proofs.Places.{finds-first-bad}
use Rattle.utf8.proofs.claims.finds_first_bad.Goals as goal

pub returns : goal.returns
returns c = finds-first-bad
