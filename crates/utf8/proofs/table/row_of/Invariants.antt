-- No row before this one leads with the byte, so the row of the table is that of its rest.
use mathlib.Core.Path.{◌≡◌}
use lib.ListN.{drop}
use Rattle.utf8.specs.Table.{rows as table, lead_row, row_of}
use Rattle.utf8.proofs.table.row_of.Given as goal

abbrev pub invariant-loop-row : goal.invariant-loop-row
invariant-loop-row l = row_of l.lead ≡ lead_row (drop l.row-index table) l.lead
