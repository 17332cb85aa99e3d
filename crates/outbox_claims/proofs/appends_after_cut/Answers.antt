use Rattle.outbox_claims.proofs.AppendsAfterCut.{appends-after-cut}
use Rattle.outbox_claims.proofs.appends_after_cut.Goals as goal

pub returns : goal.returns
returns c = appends-after-cut
