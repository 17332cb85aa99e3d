-- Laws of a segment: its digits one by one, and what is told of it.
use Prim.Native.Nat.{ℕ, zero, suc, ◌+◌, ◌≤◌, ◌<◌}
use Rattle.std.specs.Prelude.{Option, Some, None}
use mathlib.Core.Path.{◌≡◌, refl, sym, ◌∙◌}
use mathlib.Core.Bool.{Bool, true, false, cond, ◌&&◌, ◌||◌, not}
use mathlib.Core.List.{List, [], ◌∷◌}
use native.Mathlib.Numerals.{add-one}
use native.Mathlib.Omega.{arith}
use native.Mathlib.Decide.{ℕ_discrete}
use lib.ListN.{length, drop, get_or, drop_of_length-le}
use lib.Seq.{drop-cons}
use lib.Dec.{eqb}
use borrow.Author.Tests.{ne_eqb}
use Rattle.wire.specs.Told.{given, refused}
use Rattle.proto_field.specs.Value.{Within, bytes_of}
use Rattle.proto_reader.specs.Gathered.{AllText}
use Rattle.proto_reader.specs.Refusal.{TellsStrings}
use Rattle.msg_firmware.specs.declared.segment.UpdateComponentSegment.{UpdateComponentSegment}
use Rattle.msg_firmware.specs.Segment.{is_digit, all_digits, broken_field, field_told, segment_judged, segment_parts}

-- the ranges that a byte lies in, counted
pub ranges-counted : (a b c : Bool) → not (eqb (cond a 1 0 + cond b 1 0 + cond c 1 0) 0) ≡ (a || (b || c))
ranges-counted true true true = refl
ranges-counted true true false = refl
ranges-counted true false true = refl
ranges-counted true false false = refl
ranges-counted false true true = refl
ranges-counted false true false = refl
ranges-counted false false true = refl
ranges-counted false false false = refl

and-false : (a : Bool) → (a && false) ≡ false
and-false true = refl
and-false false = refl

and-true : (a : Bool) → (a && true) ≡ a
and-true true = refl
and-true false = refl

pub digits-here : (l : List ℕ) (i : ℕ) → i < length l → all_digits (drop i l) ≡ (is_digit (get_or l i 0) && all_digits (drop (i + 1) l))
digits-here l i h = rw (drop-cons l i 0 h, add-one)

pub digits-end : (l : List ℕ) (i : ℕ) → length l ≤ i → all_digits (drop i l) ≡ true
digits-end l i h = rw (drop_of_length-le l h)

-- the digits before place i were judged, and all of them are whole or not
pub record DigitsSeen (l : List ℕ) (all : Bool) (i : ℕ) : Type 0 where
  pub within : i ≤ length l
  pub rest : all_digits l ≡ (all && all_digits (drop i l))

module _ {l : List ℕ} {all : Bool} {i : ℕ} (inv : DigitsSeen l all i) where
  pub judging-end : length l ≤ i → all ≡ all_digits l
  judging-end h = sym (inv.rest ∙ rw (digits-end l i h) (and-true all))

  module _ {next : Bool} (h : i < length l) where
    pub judging-other : is_digit (get_or l i 0) ≡ false → next ≡ false → DigitsSeen l next (i + 1)
    judging-other e p = record { within = omega arith; rest = rw p (inv.rest ∙ rw (digits-here l i h, e) (and-false all)) }

    pub judging-digit : is_digit (get_or l i 0) ≡ true → next ≡ all → DigitsSeen l next (i + 1)
    judging-digit e p = record { within = omega arith; rest = rw p (inv.rest ∙ rw (digits-here l i h, e)) }

pub not-true : (b : Bool) → not b ≡ true → b ≡ false
not-true true e = absurd (let z : ◌≡◌ {A = ℕ} 0 1 = cc in omega arith)
not-true false e = refl

pub not-false : (b : Bool) → not b ≡ false → b ≡ true
not-false true e = refl
not-false false e = absurd (let z : ◌≡◌ {A = ℕ} 0 1 = cc in omega arith)

-- where no rule is broken the offset is 0
pub offset-none : (offset : ℕ) (signature : List ℕ) → broken_field offset signature ≡ 0 → offset ≡ 0
unfolding broken_field
offset-none offset signature e = by-offset (ℕ_discrete offset 0)
  where
    by-offset : Dec (offset ≡ 0) → offset ≡ 0
    by-offset (yes z) = z
    by-offset (no n) = absurd (let two : broken_field offset signature ≡ 2 = rw (ne_eqb offset 0 n) in omega (arith, e, two))

-- what is told lies within the message and is well formed
pub judged-within : (s : List ℕ) (m : UpdateComponentSegment) → Within s (segment_parts m) → AllText s (segment_parts m) → TellsStrings s segment_parts (segment_judged s m)
judged-within s m h k = by-test (eqb (broken_field m.component_offset (bytes_of s m.segment_signature)) 0)
  where
    by-test : (b : Bool) → TellsStrings s segment_parts (cond b (given m) (refused (50, broken_field m.component_offset (bytes_of s m.segment_signature) ∷ [])))
    by-test true = (h, k)
    by-test false = tt

-- the field that is told
pub told-none : (n : ℕ) → None ≡ field_told n → n ≡ 0
told-none zero e = refl
told-none (suc n) e = let k : ◌≡◌ {A = Option ℕ} None (Some (suc n)) = e in cc

pub told-some : (n f : ℕ) → Some f ≡ field_told n → (f ≡ n) × (f ≡ 0 → ⊥)
told-some zero f e = let k : ◌≡◌ {A = Option ℕ} (Some f) None = e in cc
told-some (suc n) f e =
    let k : ◌≡◌ {A = Option ℕ} (Some f) (Some (suc n)) = e in
    let same : f ≡ suc n = cc in (same, λ z. omega (arith, same, z))
