use mathlib.Core.Path.{sym, ◌∙◌}
use Rattle.classic_extractor.specs.State.{lawful}
use Rattle.classic_extractor.proofs.state.Progress.is_lawful.Goals as goal

pub returns-then-sequence_read : goal.returns-then-sequence_read
unfolding lawful
returns-then-sequence_read c = rw (sym c.sequence_read.ensures ∙ c.if-sequence_read.true) c.lawful_after.ensures

pub returns-else-sequence_read : goal.returns-else-sequence_read
unfolding lawful
returns-else-sequence_read c = rw (sym c.sequence_read.ensures ∙ c.if-sequence_read.false) c.lawful_before.ensures
