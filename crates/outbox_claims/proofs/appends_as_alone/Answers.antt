use Rattle.outbox_claims.proofs.AppendsAsAlone.{appends-as-alone}
use Rattle.outbox_claims.proofs.appends_as_alone.Goals as goal

pub returns : goal.returns
returns c = appends-as-alone
