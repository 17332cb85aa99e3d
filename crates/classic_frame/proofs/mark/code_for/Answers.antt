use Rattle.std.proofs.Common.{refl}
use Rattle.classic_frame.specs.Frame.{code_for}
use Rattle.classic_frame.proofs.mark.code_for.Goals as goal

pub returns : goal.returns
unfolding code_for
returns c = refl
