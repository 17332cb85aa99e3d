use mathlib.Core.Path.{sym, ◌∙◌}
use borrow.Author.Tests.{lt-ltb, le-ltb}
use Rattle.classic_extractor.specs.Step.{end_of}
use Rattle.classic_extractor.proofs.state.Progress.end.Goals as goal

pub returns-then-held-lt2 : goal.returns-then-held-lt2
unfolding end_of
returns-then-held-lt2 c = simp (lt-ltb _ _ c.if-held-lt2.true)

pub returns-then-not-is_checked : goal.returns-then-not-is_checked
unfolding end_of
returns-then-not-is_checked c =
    simp (le-ltb _ _ c.if-held-lt2.false, sym c.is_checked.ensures ∙ c.if-not-is_checked.true)

pub returns : goal.returns
unfolding end_of
returns c =
    simp (le-ltb _ _ c.if-held-lt2.false, sym c.is_checked.ensures ∙ c.if-not-is_checked.false)
