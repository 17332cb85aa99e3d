use native.Mathlib.Omega.{arith}
use mathlib.Core.Path.{ap, ◌∙◌}
use mir.Syntax.{w32}
use mir.Val.{SFits, to_z, of_z}
use mir.Facts.{to_z-of_z, sfits_to_z, Fits-of_z}
use lib.IntN.{ℤ}
use Rattle.proto_field.specs.Signed.{extended}
use Rattle.proto_field.proofs.SignedNumbers.{negated_fits, negated-cast, negated-below, negated-is, kept-cast, kept-is}
use Rattle.proto_field.proofs.signed.sign_extended.Goals as goal

-- a signed local holds bits: the number of its bits fits too
here : {z : ℤ} → SFits w32 z → SFits w32 (to_z w32 (of_z w32 z))
here f = sfits_to_z (Fits-of_z f)

pub overflow_sub-result : goal.overflow_sub-result
overflow_sub-result c = negated_fits _ c.if-x-lt0.true (here c.ranges.x)

pub overflow_cast-result : goal.overflow_cast-result
overflow_cast-result c = negated-cast _ c.if-x-lt0.true (here c.ranges.x)

pub overflow_sub-result-then-x-lt0 : goal.overflow_sub-result-then-x-lt0
overflow_sub-result-then-x-lt0 c = omega (arith, negated-below _ c.if-x-lt0.true (here c.ranges.x))

pub overflow_cast-result-else-x-lt0 : goal.overflow_cast-result-else-x-lt0
overflow_cast-result-else-x-lt0 c = kept-cast _ c.if-x-lt0.false (here c.ranges.x)

pub returns-then-x-lt0 : goal.returns-then-x-lt0
returns-then-x-lt0 c = negated-is _ c.if-x-lt0.true (here c.ranges.x) ∙ ap extended (to_z-of_z c.ranges.x)

pub returns-else-x-lt0 : goal.returns-else-x-lt0
returns-else-x-lt0 c = kept-is _ c.if-x-lt0.false (here c.ranges.x) ∙ ap extended (to_z-of_z c.ranges.x)
