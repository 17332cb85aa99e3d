use Prim.Native.Nat.{◌≤◌}
use mathlib.Core.Path.{sym, ◌∙◌}
use native.Mathlib.Omega.{arith}
use Rattle.wire.proofs.Limits.{limit-range}
use Rattle.classic_extractor.specs.State.{ready}
use Rattle.classic_extractor.proofs.state.Progress.is_ready.Goals.{Then-limit_fits}
use Rattle.classic_extractor.proofs.state.Progress.is_ready.Goals as goal

-- past the test the limit is small
small : (c : Then-limit_fits) → c.args.limit ≤ 65535
small c = (limit-range c.args.limit (sym c.limit_fits.ensures ∙ c.if-limit_fits.true)).1

pub overflow_add-limit : goal.overflow_add-limit
overflow_add-limit c = omega (arith, small c)

pub is_lawful-requires : goal.is_lawful-requires
is_lawful-requires c = small c

pub returns-then-limit_fits : goal.returns-then-limit_fits
unfolding ready
returns-then-limit_fits c =
    rw (sym c.limit_fits.ensures ∙ c.if-limit_fits.true, ← c.is_lawful.ensures) c.both.ensures

pub returns-else-limit_fits : goal.returns-else-limit_fits
unfolding ready
returns-else-limit_fits c = rw (sym c.limit_fits.ensures ∙ c.if-limit_fits.false)
