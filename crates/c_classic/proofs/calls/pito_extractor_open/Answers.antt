use borrow.Author.Tests.{eq-eqb, ne_eqb}
use Rattle.c_classic.specs.Calls.{extractor_open_of}
use Rattle.c_classic.proofs.calls.pito_extractor_open.Goals as goal

pub returns-then-state-ne-STATE : goal.returns-then-state-ne-STATE
unfolding extractor_open_of
returns-then-state-ne-STATE c = rw (ne_eqb _ _ c.if-state-ne-STATE.true)

pub returns-in-Ok : goal.returns-in-Ok
unfolding extractor_open_of
returns-in-Ok c =
    rw (
      eq-eqb _ _ c.if-state-ne-STATE.false,
      ← c.open.ensures,
      c.in-Ok.is,
      c.write_row.ensures,
      c.extractor_row-row.ensures,
    )

pub returns-in-Err : goal.returns-in-Err
unfolding extractor_open_of
returns-in-Err c =
    rw (eq-eqb _ _ c.if-state-ne-STATE.false, ← c.open.ensures, c.wide64.ensures.0, c.number.ensures, c.in-Err.is)
