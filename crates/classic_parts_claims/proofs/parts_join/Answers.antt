use Rattle.classic_parts_claims.proofs.Joined.{parts_join}
use Rattle.classic_parts_claims.proofs.parts_join.Goals as goal

pub returns : goal.returns
returns c = parts_join
