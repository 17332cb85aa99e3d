use Rattle.reply_claims.proofs.Untouched.{nothing_written}
use Rattle.reply_claims.proofs.nothing_written.Goals as goal

pub returns : goal.returns
returns c = nothing_written
