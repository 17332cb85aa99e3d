use borrow.Author.Tests.{eq-eqb, ne_eqb}
use Rattle.c_classic_parts.specs.Convert.{is_state}
use Rattle.c_classic_parts.proofs.convert.is_state.Goals as goal

pub returns-then-row-ne-STATE : goal.returns-then-row-ne-STATE
unfolding is_state
returns-then-row-ne-STATE c = rw (ne_eqb _ _ c.if-row-ne-STATE.true)

pub returns : goal.returns
unfolding is_state
returns c = rw (eq-eqb _ _ c.if-row-ne-STATE.false, ← c.both-ends.ensures, ← c.both-sums.ensures) c.both.ensures
