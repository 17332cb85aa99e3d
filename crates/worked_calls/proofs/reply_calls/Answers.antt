use Rattle.worked_calls.proofs.Reply.{reply-calls}
use Rattle.worked_calls.proofs.reply_calls.Goals as goal

pub returns : goal.returns
returns c = reply-calls
