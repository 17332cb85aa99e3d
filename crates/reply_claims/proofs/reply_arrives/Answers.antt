use Rattle.reply_claims.proofs.Arrives.{reply-arrives}
use Rattle.reply_claims.proofs.reply_arrives.Goals as goal

pub returns : goal.returns
returns c = reply-arrives
