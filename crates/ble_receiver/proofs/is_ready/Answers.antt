use mathlib.Core.Path.{sym, ◌∙◌}
use mathlib.Core.Bool.{and-false}
use native.Mathlib.Omega.{arith}
use Rattle.wire.proofs.Limits.{limit-range}
use Rattle.ble_receiver.specs.Receiver.{ready}
use Rattle.ble_receiver.proofs.is_ready.Goals as goal

pub overflow_mul-limit : goal.overflow_mul-limit
overflow_mul-limit c =
    let small = (limit-range _ (sym c.limit_fits.ensures ∙ c.if-limit_fits.true)).1 in
    omega (arith, small)

pub returns-then-limit_fits : goal.returns-then-limit_fits
unfolding ready
returns-then-limit_fits c =
    rw (sym c.limit_fits.ensures ∙ c.if-limit_fits.true, ← c.are_lawful.ensures, ← c.both-fits.ensures) c.both.ensures

pub returns-else-limit_fits : goal.returns-else-limit_fits
unfolding ready
returns-else-limit_fits c = simp (sym c.limit_fits.ensures ∙ c.if-limit_fits.false, and-false)
