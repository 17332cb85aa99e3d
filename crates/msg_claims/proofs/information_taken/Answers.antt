use Rattle.msg_claims.proofs.Premises.{information-taken}
use Rattle.msg_claims.proofs.information_taken.Goals as goal

pub returns : goal.returns
returns c = information-taken
