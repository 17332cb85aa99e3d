use Rattle.msg_claims.proofs.ByHand.{worked-information}
use Rattle.msg_claims.proofs.worked.Goals as goal

pub returns : goal.returns
returns c = worked-information
