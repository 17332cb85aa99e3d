use mathlib.Core.Path.{sym, ◌∙◌}
use Rattle.ble_receiver.specs.Receiver.{open_of}
use Rattle.ble_receiver.proofs.Receiver.open.Goals as goal

pub returns-then-limit_fits : goal.returns-then-limit_fits
unfolding open_of
returns-then-limit_fits c = rw (sym c.limit_fits.ensures ∙ c.if-limit_fits.true)

pub returns-else-limit_fits : goal.returns-else-limit_fits
unfolding open_of
returns-else-limit_fits c = rw (sym c.limit_fits.ensures ∙ c.if-limit_fits.false)
