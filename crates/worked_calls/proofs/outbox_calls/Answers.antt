use Rattle.worked_calls.proofs.Outbox.{outbox-calls}
use Rattle.worked_calls.proofs.outbox_calls.Goals as goal

pub returns : goal.returns
returns c = outbox-calls
