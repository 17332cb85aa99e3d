-- Laws of signed numbers: minus one less a number flips its bits.
use Prim.Native.Nat.{ℕ, zero, suc, ◌-◌, ◌≤◌, ◌<◌, ◌^◌, ◌%◌}
use mathlib.Core.Path.{◌≡◌, refl, sym, ap, ◌∙◌}
use mathlib.Core.Bool.{true, false}
use native.Mathlib.Omega.{arith}
use lib.IntN.{ℤ, pos, negsuc, ◌-ℤ◌, nat_abs}
use lib.Dec.{T}
use lib.Signed.{mag, lt_z, non_neg}
use mir.Syntax.{w32, w64}
use mir.Val.{SFits, Fits, to_z, of_z}
use mir.Facts.{to_z-of_z, sfits_to_z, to_z_pos, to_z-neg}
use borrow.Author.Tests.{le-ltb, ltb-true}
use Rattle.proto_field.specs.Signed.{signed_of, extended}

-- -1 - (-(n + 1)) is n, and -1 - n is -(n + 1)
pub flip-neg : (n : ℕ) → negsuc 0 -ℤ negsuc n ≡ pos n
flip-neg n = rw (le-ltb (suc n) 1 (omega arith)) (ap pos (omega arith))

pub flip-pos : (n : ℕ) → negsuc 0 -ℤ pos n ≡ negsuc n
flip-pos zero = refl
flip-pos (suc n) = ap negsuc (omega arith)

-- the upper half of the 32 bits, as the code computes its number
module _ (low : ℕ) (big : 2 ^ 31 ≤ low) (fits : low < 2 ^ 32) where
  pub flipped : negsuc 0 -ℤ to_z w32 (4294967295 - low) ≡ negsuc (4294967295 - low)
  flipped = rw (to_z_pos w32 {n = 4294967295 - low} (omega arith)) (flip-pos (4294967295 - low))

  pub flipped-fits : SFits w32 (negsuc 0 -ℤ to_z w32 (4294967295 - low))
  flipped-fits = rw flipped (record { sfits = omega arith })

  pub flipped-is : to_z w32 (of_z w32 (negsuc 0 -ℤ to_z w32 (4294967295 - low))) ≡ to_z w32 low
  flipped-is = to_z-of_z flipped-fits ∙ flipped ∙ sym (to_z-neg w32 (4294967295 - low) (omega arith)) ∙ ap (to_z w32) same
    where
      same : 4294967296 - suc (4294967295 - low) ≡ low
      same = omega arith

-- a signed test against 0, as a shape
pub below-zero : (z : ℤ) → lt_z z (pos 0) ≡ true → z ≡ negsuc (mag z)
below-zero (pos n) h = absurd (not-below n (ltb-true n 0 h))
  where
    not-below : (n : ℕ) → n < 0 → ⊥
    not-below n h = omega arith
below-zero (negsuc n) h = refl

pub not-below-zero : (z : ℤ) → lt_z z (pos 0) ≡ false → z ≡ pos (mag z)
not-below-zero (pos n) h = refl
not-below-zero (negsuc n) h = absurd (let z : ◌≡◌ {A = ℕ} 0 1 = cc in omega arith)

-- a number below 0, and what the code computes of it: all by -1 - z, which is mag z
module _ (z : ℤ) (below : lt_z z (pos 0) ≡ true) (f : SFits w32 z) where
  negated : negsuc 0 -ℤ z ≡ pos (mag z)
  negated = ap (λ (y : ℤ). negsuc 0 -ℤ y) (below-zero z below) ∙ flip-neg (mag z)

  pub negated_fits : SFits w32 (negsuc 0 -ℤ z)
  negated_fits = rw negated (record { sfits = f.sfits })

  back : to_z w32 (of_z w32 (negsuc 0 -ℤ z)) ≡ pos (mag z)
  back = to_z-of_z negated_fits ∙ negated

  pub negated-cast : T (non_neg (to_z w32 (of_z w32 (negsuc 0 -ℤ z)))) × Fits w64 (nat_abs (to_z w32 (of_z w32 (negsuc 0 -ℤ z))))
  negated-cast = rw back (tt, record { fits = omega (arith, f.sfits) })

  pub negated-below : nat_abs (to_z w32 (of_z w32 (negsuc 0 -ℤ z))) < 2 ^ 31
  negated-below = rw back f.sfits

  pub negated-is : 18446744073709551615 - nat_abs (to_z w32 (of_z w32 (negsuc 0 -ℤ z))) ≡ extended z
  negated-is = rw back (omega arith) ∙ ap extended (sym (below-zero z below))

module _ (z : ℤ) (above : lt_z z (pos 0) ≡ false) (f : SFits w32 z) where
  pub kept-cast : T (non_neg z) × Fits w64 (nat_abs z)
  kept-cast = rw (not-below-zero z above) (tt, record { fits = omega (arith, f.sfits) })

  pub kept-is : nat_abs z ≡ extended z
  kept-is = rw (not-below-zero z above)

low_fits : (v : ℕ) → SFits w32 (signed_of v)
low_fits v = sfits_to_z {w = w32} {n = v % 2 ^ 32} (record { fits = omega arith })

-- a signed result that was put into a local and read back
pub signed-kept : (r : ℤ) (v : ℕ) → r ≡ signed_of v → to_z w32 (of_z w32 r) ≡ signed_of v
signed-kept r v e = ap (λ (z : ℤ). to_z w32 (of_z w32 z)) e ∙ to_z-of_z (low_fits v)

-- an entry of a lent list, read
pub entry_read : (z : ℤ) → mag z < 2 ^ 31 → extended (to_z w32 (of_z w32 z)) ≡ extended z
entry_read z h = ap extended (to_z-of_z {w = w32} {z = z} (record { sfits = h }))
