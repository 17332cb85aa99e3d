use Rattle.msg_claims.proofs.Premises.{responses-taken}
use Rattle.msg_claims.proofs.responses_taken.Goals as goal

pub returns : goal.returns
returns c = responses-taken
