use mathlib.Core.Path.{◌≡◌}
use lib.ListN.{length, take}
use Rattle.c_firmware_rows.specs.Apply.{components_at}
use Rattle.c_firmware_rows.proofs.apply.components_at.Given as goal

abbrev pub invariant-loop-i : goal.invariant-loop-i
invariant-loop-i l = (length l.components ≡ 8) × (take l.i l.components ≡ components_at l.i l.row 9)
