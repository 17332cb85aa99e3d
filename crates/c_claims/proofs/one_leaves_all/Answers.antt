use Rattle.c_claims.proofs.OneLeavesAll.{one-leaves-all}
use Rattle.c_claims.proofs.one_leaves_all.Goals as goal

pub returns : goal.returns
returns c = one-leaves-all
