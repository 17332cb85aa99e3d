use mathlib.Core.Path.{sym, ◌∙◌}
use borrow.Author.Tests.{eq-eqb, ne_eqb}
use Rattle.c_classic_parts.specs.Calls.{frame_part_of}
use Rattle.c_classic_parts.proofs.calls.pito_frame_part.Goals as goal

pub returns-then-answer-ne-PART_ANSWER : goal.returns-then-answer-ne-PART_ANSWER
unfolding frame_part_of
returns-then-answer-ne-PART_ANSWER c = rw (ne_eqb _ _ c.if-answer-ne-PART_ANSWER.true)

pub returns-then-not-is_state : goal.returns-then-not-is_state
unfolding frame_part_of
returns-then-not-is_state c = rw (eq-eqb _ _ c.if-answer-ne-PART_ANSWER.false, ← c.is_state.ensures, c.if-not-is_state.true)

pub part_fitting-requires : goal.part_fitting-requires
part_fitting-requires c =
    (sym c.is_state.ensures ∙ c.if-not-is_state.false, c.if-answer-ne-PART_ANSWER.false)

pub returns : goal.returns
unfolding frame_part_of
returns c =
    rw (
      eq-eqb _ _ c.if-answer-ne-PART_ANSWER.false,
      ← c.is_state.ensures,
      c.if-not-is_state.false,
    )
    c.part_fitting.ensures
