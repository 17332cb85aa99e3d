use Rattle.classic_parts_claims.proofs.Stopping.{parts-stop}
use Rattle.classic_parts_claims.proofs.parts_stop.Goals as goal

pub returns : goal.returns
returns c = parts-stop
