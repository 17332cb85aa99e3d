-- Wire types 1 and 5 skip; 0 and 2 begin with the varint that was read; each test leaves one line of `value_at`.
use Prim.Native.Nat.{ℕ, zero, suc, ◌≤◌}
use mathlib.Core.Path.{◌≡◌, refl, ap, sym, ◌∙◌}
use mathlib.Core.Bool.{cond}
use mathlib.Core.List.{List}
use native.Mathlib.Omega.{arith}
use lib.Dec.{eqb}
use borrow.Author.Tests.{ne_eqb}
use Rattle.std.proofs.lemmas.Result.{err_from_is_err_and}
use Rattle.wire.specs.Told.{given, and_then}
use Rattle.proto_field.specs.declared.value.Value.TheVariants.{Number}
use Rattle.proto_field.specs.Varint.{varint_at, told_varint}
use Rattle.proto_field.specs.Value.{part_of, value_at, told_value}
use Rattle.proto_field.proofs.Varints.{varint-next}
use Rattle.proto_field.proofs.Places.{value-told}
use Rattle.proto_field.proofs.value.read_value.Goals as goal

-- the wire types 0 and 2 begin with a varint
by-varint : (s : List ℕ) (at wire : ℕ) → wire ≤ 2 → (wire ≡ 1 → ⊥)
    → value_at s at wire ≡ and_then (varint_at s at) (λ p. cond (eqb wire 0) (given (Number p.0, p.1)) (part_of s p))
unfolding value_at
by-varint s at zero l n = refl
by-varint s at (suc zero) l n = absurd (n refl)
by-varint s at (suc (suc zero)) l n = refl
by-varint s at (suc (suc (suc wire))) l n = absurd (omega arith)

pub returns-then-wire-eq-FIXED32 : goal.returns-then-wire-eq-FIXED32
unfolding value_at
returns-then-wire-eq-FIXED32 c = let both = value-told c.args.message.now c.args.at c.args.wire (told_value c.skip.result) (rw c.if-wire-eq-FIXED32.true c.skip.ensures) in record { result_value = both.0; tells_within = both.1 }

pub returns-then-wire-gt-LENGTH : goal.returns-then-wire-gt-LENGTH
unfolding value_at
returns-then-wire-gt-LENGTH c =
    let wire = c.args.wire in
    let above = c.if-wire-gt-LENGTH.true in record {
      result_value = rw (
        ne_eqb wire 0 (λ e. omega (arith, above, e)),
        ne_eqb wire 2 (λ e. omega (arith, above, e)),
        ne_eqb wire 1 (λ e. omega (arith, above, e)),
        ne_eqb _ _ c.if-wire-eq-FIXED32.false,
      );
      tells_within = tt;
    }

pub returns-then-wire-eq-FIXED64 : goal.returns-then-wire-eq-FIXED64
unfolding value_at
returns-then-wire-eq-FIXED64 c = let both = value-told c.args.message.now c.args.at c.args.wire (told_value c.skip-then-wire-eq-FIXED64.result) (rw c.if-wire-eq-FIXED64.true c.skip-then-wire-eq-FIXED64.ensures) in record { result_value = both.0; tells_within = both.1 }

pub returns-then-wire-eq-VARINT : goal.returns-then-wire-eq-VARINT
unfolding value_at
returns-then-wire-eq-VARINT c = record { result_value = rw (c.if-wire-eq-VARINT.true, sym c.read_varint.ensures ∙ ap told_varint c.in_ok-varint.was); tells_within = tt }

pub part_of-requires : goal.part_of-requires
part_of-requires c = (varint-next _ _ _ _ (sym c.read_varint.ensures ∙ ap told_varint c.in_ok-varint.was)).1

pub returns-in_err-varint : goal.returns-in_err-varint
returns-in_err-varint c =
    let p = err_from_is_err_and c.from_residual.result c.from_residual.ensures.1 in record {
      result_value = rw (
        p.1,
        p.2,
        by-varint c.args.message.now c.args.at c.args.wire c.if-wire-gt-LENGTH.false c.if-wire-eq-FIXED64.false,
        sym c.read_varint.ensures ∙ ap told_varint c.in_err-varint.was,
      );
      tells_within = rw p.1 tt;
    }

pub returns : goal.returns
returns c = let both = value-told c.args.message.now c.args.at c.args.wire (told_value c.part_of.result)
    (rw (by-varint c.args.message.now c.args.at c.args.wire c.if-wire-gt-LENGTH.false c.if-wire-eq-FIXED64.false, sym c.read_varint.ensures ∙ ap told_varint c.in_ok-varint.was, ne_eqb _ _ c.if-wire-eq-VARINT.false) c.part_of.ensures) in record { result_value = both.0; tells_within = both.1 }
