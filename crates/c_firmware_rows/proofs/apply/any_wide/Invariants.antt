use Prim.Native.Nat.{◌+◌, ◌*◌, ◌-◌}
use mathlib.Core.Path.{◌≡◌}
use Rattle.c_firmware_rows.specs.Apply.{any_wide}
use Rattle.c_firmware_rows.proofs.apply.any_wide.Given as goal

abbrev pub invariant-loop-i : goal.invariant-loop-i
invariant-loop-i l = any_wide (l.count - l.i) l.row (9 + 6 * l.i) ≡ any_wide l.count l.row 9
