use Rattle.classic_claims.proofs.Recovery.{frame-returns}
use Rattle.classic_claims.proofs.frame_returns.Goals as goal

pub returns : goal.returns
returns c = frame-returns
