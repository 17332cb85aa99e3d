use Rattle.reply_claims.proofs.CutApart.{joined-cut-apart}
use Rattle.reply_claims.proofs.joined_cut_apart.Goals as goal

pub returns : goal.returns
returns c = joined-cut-apart
