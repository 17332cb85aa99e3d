use Rattle.utf8.proofs.Places.{whole-exactly-if-well-formed}
use Rattle.utf8.proofs.claims.whole_exactly_if_well_formed.Goals as goal

pub returns : goal.returns
returns c = whole-exactly-if-well-formed
