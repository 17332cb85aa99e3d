use borrow.Author.Tests.{eq-eqb, ne_eqb}
use Rattle.c_classic_parts.proofs.calls.keep.Goals as goal

pub returns-then-number-eq-DONE : goal.returns-then-number-eq-DONE
returns-then-number-eq-DONE c = rw (eq-eqb _ _ c.if-number-eq-DONE.true) c.write_row.ensures

pub returns-else-number-eq-DONE : goal.returns-else-number-eq-DONE
returns-else-number-eq-DONE c = rw (ne_eqb _ _ c.if-number-eq-DONE.false)
