use borrow.Author.Tests.{eq-eqb, ne_eqb}
use Rattle.c_classic.specs.Convert.{is_extractor}
use Rattle.c_classic.proofs.convert.is_extractor.Goals as goal

pub returns-then-row-ne-STATE : goal.returns-then-row-ne-STATE
unfolding is_extractor
returns-then-row-ne-STATE c = rw (ne_eqb _ _ c.if-row-ne-STATE.true)

pub returns : goal.returns
unfolding is_extractor
returns c = rw (eq-eqb _ _ c.if-row-ne-STATE.false) c.both.ensures
