use mathlib.Core.Path.{sym, ◌∙◌}
use borrow.Author.Tests.{eq-eqb, ne_eqb}
use Rattle.c_classic.specs.Calls.{extractor_step_of}
use Rattle.c_classic.proofs.calls.pito_extractor_step.Goals as goal

pub returns-then-answer-ne-STEP_ANSWER : goal.returns-then-answer-ne-STEP_ANSWER
unfolding extractor_step_of
returns-then-answer-ne-STEP_ANSWER c = rw (ne_eqb _ _ c.if-answer-ne-STEP_ANSWER.true)

pub returns-then-not-is_extractor : goal.returns-then-not-is_extractor
unfolding extractor_step_of
returns-then-not-is_extractor c =
    rw (
      eq-eqb _ _ c.if-answer-ne-STEP_ANSWER.false,
      ← c.is_extractor.ensures,
      c.if-not-is_extractor.true,
    )

pub step_fitting-requires : goal.step_fitting-requires
step_fitting-requires c =
    (sym c.is_extractor.ensures ∙ c.if-not-is_extractor.false, c.if-answer-ne-STEP_ANSWER.false)

pub returns : goal.returns
unfolding extractor_step_of
returns c =
    rw (
      eq-eqb _ _ c.if-answer-ne-STEP_ANSWER.false,
      ← c.is_extractor.ensures,
      c.if-not-is_extractor.false,
    )
    c.step_fitting.ensures
