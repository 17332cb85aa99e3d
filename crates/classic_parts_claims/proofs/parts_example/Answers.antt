use Rattle.classic_parts_claims.proofs.Example.{parts-example}
use Rattle.classic_parts_claims.proofs.parts_example.Goals as goal

pub returns : goal.returns
returns c = parts-example
