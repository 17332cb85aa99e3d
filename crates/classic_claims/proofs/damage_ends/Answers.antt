use Rattle.classic_claims.proofs.Recovery.{damage-ends}
use Rattle.classic_claims.proofs.damage_ends.Goals as goal

pub returns : goal.returns
returns c = damage-ends
