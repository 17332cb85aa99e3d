use Rattle.worked.proofs.LimitEnds.{limit-ends}
use Rattle.worked.proofs.limit_ends.Goals as goal

pub returns : goal.returns
returns c = limit-ends
