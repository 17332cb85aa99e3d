use Rattle.reply_claims.proofs.ReadAgain.{reply-reads}
use Rattle.reply_claims.proofs.reply_reads.Goals as goal

pub returns : goal.returns
returns c = reply-reads
