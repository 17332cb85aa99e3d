use Rattle.reply_claims.proofs.Instance.{by_hand}
use Rattle.reply_claims.proofs.worked_replies.Goals as goal

pub returns : goal.returns
returns c = by_hand
