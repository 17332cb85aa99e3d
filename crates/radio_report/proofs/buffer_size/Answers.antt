use Rattle.std.proofs.Common.{arith}
use Rattle.wire.proofs.Limits.{limit-range}
use Rattle.radio_report.proofs.buffer_size.Goals as goal

-- twelve buffers of the largest limit fit a number
pub overflow_mul-result : goal.overflow_mul-result
overflow_mul-result c = omega (arith, (limit-range c.args.limit c.requires).1)
