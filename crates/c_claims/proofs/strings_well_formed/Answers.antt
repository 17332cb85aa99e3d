use Rattle.c_claims.proofs.Strings.{strings-well-formed}
use Rattle.c_claims.proofs.strings_well_formed.Goals as goal

pub returns : goal.returns
returns c = strings-well-formed
