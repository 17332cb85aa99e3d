use Rattle.classic_claims.proofs.Example.{damage-example}
use Rattle.classic_claims.proofs.damage_example.Goals as goal

pub returns : goal.returns
returns c = damage-example
