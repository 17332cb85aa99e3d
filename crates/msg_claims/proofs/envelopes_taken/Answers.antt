use Rattle.msg_claims.proofs.Premises.{envelopes-taken}
use Rattle.msg_claims.proofs.envelopes_taken.Goals as goal

pub returns : goal.returns
returns c = envelopes-taken
