use Rattle.msg_claims.proofs.RoundTrip.{none-refused}
use Rattle.msg_claims.proofs.none_refused.Goals as goal

pub returns : goal.returns
returns c = none-refused
