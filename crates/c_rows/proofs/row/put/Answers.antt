use borrow.Author.Tests.{eq-eqb, ne_eqb}
use Rattle.c_rows.proofs.row.put.Goals as goal

pub returns-then-number-ne-UNFIT : goal.returns-then-number-ne-UNFIT
returns-then-number-ne-UNFIT c = rw (ne_eqb _ _ c.if-number-ne-UNFIT.true) c.write_row.ensures

pub returns-else-number-ne-UNFIT : goal.returns-else-number-ne-UNFIT
returns-else-number-ne-UNFIT c = rw (eq-eqb _ _ c.if-number-ne-UNFIT.false)
