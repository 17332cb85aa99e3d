use Rattle.std.proofs.Common.{sym, ◌∙◌}
use Rattle.classic_frame.proofs.header.next_sequence.Goals as goal

pub returns-then-is_mark : goal.returns-then-is_mark
returns-then-is_mark c = rw (sym c.is_mark.ensures ∙ c.if-is_mark.true)

pub returns-else-is_mark : goal.returns-else-is_mark
returns-else-is_mark c = rw (sym c.is_mark.ensures ∙ c.if-is_mark.false)
