use mathlib.Core.Path.{ap, ◌∙◌}
use native.Mathlib.Omega.{arith}
use mir.Syntax.{w32}
use mir.Val.{to_z}
use Rattle.proto_field.proofs.SignedNumbers.{flipped-fits, flipped-is}
use Rattle.proto_field.proofs.signed.low_signed.Goals as goal

pub overflow_sub-result-else-low-lt-FIRST_NEGATIVE : goal.overflow_sub-result-else-low-lt-FIRST_NEGATIVE
overflow_sub-result-else-low-lt-FIRST_NEGATIVE c = flipped-fits _ c.if-low-lt-FIRST_NEGATIVE.false (omega arith)

pub returns-then-low-lt-FIRST_NEGATIVE : goal.returns-then-low-lt-FIRST_NEGATIVE
returns-then-low-lt-FIRST_NEGATIVE c = ap (to_z w32) c.low_bits-low.ensures

pub returns-else-low-lt-FIRST_NEGATIVE : goal.returns-else-low-lt-FIRST_NEGATIVE
returns-else-low-lt-FIRST_NEGATIVE c = flipped-is _ c.if-low-lt-FIRST_NEGATIVE.false (omega arith) ∙ ap (to_z w32) c.low_bits-low.ensures
