use Rattle.outbox_claims.proofs.RecordsReturn.{records-return}
use Rattle.outbox_claims.proofs.records_return.Goals as goal

pub returns : goal.returns
returns c = records-return
