use mathlib.Core.Path.{refl}
use Rattle.c_firmware_rows.specs.More.{is_wide}
use Rattle.c_firmware_rows.proofs.segment.is_wide.Goals as goal

pub returns : goal.returns
unfolding is_wide
returns c = refl
