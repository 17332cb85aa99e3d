use Rattle.c_claims.proofs.SizesSuffice.{sizes-suffice}
use Rattle.c_claims.proofs.sizes_suffice.Goals as goal

pub returns : goal.returns
returns c = sizes-suffice
