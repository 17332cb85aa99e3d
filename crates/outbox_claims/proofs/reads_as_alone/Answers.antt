use Rattle.outbox_claims.proofs.ReadsAsAlone.{reads-as-alone}
use Rattle.outbox_claims.proofs.reads_as_alone.Goals as goal

pub returns : goal.returns
returns c = reads-as-alone
