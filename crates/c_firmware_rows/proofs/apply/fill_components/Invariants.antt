use mathlib.Core.Path.{◌≡◌}
use lib.ListN.{length, take}
use lib.Seq.{sets}
use Rattle.c_firmware_rows.specs.Apply.{component_rows}
use Rattle.c_firmware_rows.proofs.apply.fill_components.Given as goal

abbrev pub invariant-loop-i : goal.invariant-loop-i
invariant-loop-i l = (length l.row ≡ length l.initial.row) × (l.row ≡ sets l.initial.row 9 (component_rows (take l.i l.components)))
