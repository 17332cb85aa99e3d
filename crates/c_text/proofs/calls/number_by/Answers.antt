use borrow.Author.Tests.{eq-eqb, ne_eqb}
use Rattle.c_text.proofs.calls.number_by.Goals as goal

pub returns-then-place-len : goal.returns-then-place-len
returns-then-place-len c = rw (eq-eqb _ _ c.if-place-len.true)

pub returns-else-place-len : goal.returns-else-place-len
returns-else-place-len c = rw (ne_eqb _ _ c.if-place-len.false)
