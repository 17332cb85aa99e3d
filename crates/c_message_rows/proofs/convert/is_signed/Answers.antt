use Prim.Native.Nat.{ℕ}
use mathlib.Core.Path.{ap, ◌∙◌}
use lib.Dec.{eqb}
use Rattle.proto_field.specs.Signed.{extended}
use Rattle.proto_field.proofs.SignedNumbers.{signed-kept}
use Rattle.c_message_rows.specs.Convert.{is_signed}
use Rattle.c_message_rows.proofs.convert.is_signed.Goals as goal

pub returns : goal.returns
unfolding is_signed
returns c =
    ap (λ (x : ℕ). eqb x c.args.n) (c.sign_extended.ensures ∙ ap extended (signed-kept _ c.args.n c.low_signed.ensures))
