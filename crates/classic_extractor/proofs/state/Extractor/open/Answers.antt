use mathlib.Core.Path.{sym, ◌∙◌}
use Rattle.classic_extractor.specs.State.{open_of}
use Rattle.classic_extractor.proofs.state.Extractor.open.Goals as goal

pub returns-then-limit_fits : goal.returns-then-limit_fits
unfolding open_of
returns-then-limit_fits c = rw (sym c.limit_fits.ensures ∙ c.if-limit_fits.true, c.outside.ensures)

pub returns-else-limit_fits : goal.returns-else-limit_fits
unfolding open_of
returns-else-limit_fits c = rw (sym c.limit_fits.ensures ∙ c.if-limit_fits.false)
