use borrow.Author.Tests.{eq-eqb, ne_eqb}
use Rattle.c_classic_parts.specs.Calls.{frame_begin_of}
use Rattle.c_classic_parts.proofs.calls.pito_frame_begin.Goals as goal

pub returns-then-state-ne-STATE : goal.returns-then-state-ne-STATE
unfolding frame_begin_of
returns-then-state-ne-STATE c = rw (ne_eqb _ _ c.if-state-ne-STATE.true)

pub returns-in-Ok : goal.returns-in-Ok
unfolding frame_begin_of
returns-in-Ok c =
    rw (
      eq-eqb _ _ c.if-state-ne-STATE.false,
      ← c.byte_or-sequence.ensures,
      ← c.begin.ensures,
      c.in-Ok.is,
      c.write_row.ensures,
      c.state_row-row.ensures,
    )

pub returns-in-Err : goal.returns-in-Err
unfolding frame_begin_of
returns-in-Err c =
    rw (
      eq-eqb _ _ c.if-state-ne-STATE.false,
      ← c.byte_or-sequence.ensures,
      ← c.begin.ensures,
      c.wide64.ensures.0,
      c.number.ensures,
      c.in-Err.is,
    )
