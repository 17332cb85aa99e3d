use Rattle.msg_claims.proofs.Premises.{features-taken}
use Rattle.msg_claims.proofs.features_taken.Goals as goal

pub returns : goal.returns
returns c = features-taken
