use mathlib.Core.Path.{sym, ◌∙◌}
use Rattle.c_report.specs.Calls.{adding_to}
use Rattle.c_report.proofs.calls.adding_to.Goals as goal

pub returns-then-both : goal.returns-then-both
unfolding adding_to
returns-then-both c = rw (sym c.both.ensures ∙ c.if-both.true, c.report_at-before.ensures)

pub returns-else-both : goal.returns-else-both
unfolding adding_to
returns-else-both c = rw (sym c.both.ensures ∙ c.if-both.false, c.report_at-before.ensures)
