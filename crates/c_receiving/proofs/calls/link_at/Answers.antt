use mathlib.Core.Path.{sym, ◌∙◌}
use Rattle.c_receiving.specs.Calls.{link_at}
use Rattle.c_receiving.proofs.calls.link_at.Goals as goal

pub returns-then-both : goal.returns-then-both
unfolding link_at
returns-then-both c = rw (sym c.both.ensures ∙ c.if-both.true, ← c.number_at-limit.ensures)

pub returns-else-both : goal.returns-else-both
unfolding link_at
returns-else-both c = rw (sym c.both.ensures ∙ c.if-both.false)
