-- The ranges passed are those of the bytes passed; what is left decides.
use mathlib.Core.Path.{◌≡◌}
use lib.ListN.{drop}
use Rattle.utf8.specs.Table.{begins}
use Rattle.utf8.proofs.table.begins_with.Given as goal

abbrev pub invariant-loop-i : goal.invariant-loop-i
invariant-loop-i l = begins l.row l.bytes ≡ begins (drop l.i l.row) (drop l.i l.bytes)
