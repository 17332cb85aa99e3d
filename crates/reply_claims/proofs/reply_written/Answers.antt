use Rattle.reply_claims.proofs.Premises.{answers-all}
use Rattle.reply_claims.proofs.Arrives.{reply-written}
use Rattle.reply_claims.proofs.reply_written.Goals as goal

pub returns : goal.returns
returns c = (answers-all, reply-written)
