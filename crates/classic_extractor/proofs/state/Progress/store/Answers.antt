use borrow.Author.Tests.{lt-ltb, le-ltb}
use Rattle.classic_extractor.specs.Step.{store_of}
use Rattle.classic_extractor.proofs.state.Progress.store.Goals as goal

pub returns-then-held-buffer : goal.returns-then-held-buffer
unfolding store_of
returns-then-held-buffer c = λ limit e. simp (lt-ltb _ _ (rw e at c.if-held-buffer.true))

pub returns-else-held-buffer : goal.returns-else-held-buffer
unfolding store_of
returns-else-held-buffer c = λ limit e. simp (le-ltb _ _ (rw e at c.if-held-buffer.false), c.outside.ensures)
