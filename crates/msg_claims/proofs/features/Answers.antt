use Rattle.msg_claims.proofs.RoundTrip.{features-round-trip}
use Rattle.msg_claims.proofs.features.Goals as goal

pub returns : goal.returns
returns c = features-round-trip
