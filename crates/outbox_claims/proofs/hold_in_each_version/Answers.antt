use Rattle.outbox_claims.proofs.Versions.{hold-in-each-version}
use Rattle.outbox_claims.proofs.hold_in_each_version.Goals as goal

pub returns : goal.returns
returns c = hold-in-each-version
