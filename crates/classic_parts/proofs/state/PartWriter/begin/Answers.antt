use mathlib.Core.Path.{sym, ◌∙◌}
use Rattle.classic_parts.proofs.state.PartWriter.begin.Goals as goal

pub returns-then-not-limit_fits : goal.returns-then-not-limit_fits
returns-then-not-limit_fits c = rw (sym c.limit_fits.ensures ∙ c.if-not-limit_fits.true)

pub returns-then-bad_start : goal.returns-then-bad_start
returns-then-bad_start c =
    rw (sym c.limit_fits.ensures ∙ c.if-not-limit_fits.false, sym c.bad_start.ensures ∙ c.if-bad_start.true)

pub returns : goal.returns
returns c =
    rw (sym c.limit_fits.ensures ∙ c.if-not-limit_fits.false, sym c.bad_start.ensures ∙ c.if-bad_start.false, c.start-progress.ensures)
