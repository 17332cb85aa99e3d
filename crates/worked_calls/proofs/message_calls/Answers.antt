use Rattle.worked_calls.proofs.Messages.{message-calls}
use Rattle.worked_calls.proofs.message_calls.Goals as goal

pub returns : goal.returns
returns c = message-calls
