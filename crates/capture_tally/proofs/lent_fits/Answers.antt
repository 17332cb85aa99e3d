use native.Mathlib.Omega.{arith}
use Rattle.wire.proofs.Limits.{limit-range}
use Rattle.capture_tally.proofs.lent_fits.Goals as goal

pub overflow_mul-limit : goal.overflow_mul-limit
overflow_mul-limit c = omega (arith, (limit-range c.args.limit c.requires).1)
