use Rattle.utf8.proofs.Places.{only-one-first-bad}
use Rattle.utf8.proofs.claims.only_one_first_bad.Goals as goal

pub returns : goal.returns
returns c = only-one-first-bad
