-- What is written is read again: bytes, varints, signed numbers, tags and values.
use Prim.Native.Nat.{ℕ, zero, suc, ◌+◌, ◌-◌, ◌*◌, ◌/◌, ◌%◌, ◌≤◌, ◌<◌, ◌^◌}
use mathlib.Core.Path.{◌≡◌, sym, ap, ◌∙◌}
use mathlib.Core.List.{List, [], ◌++◌, append_assoc, append-nil}
use native.Mathlib.Omega.{arith}
use native.Mathlib.Decide.{dec_lt}
use lib.IntN.{ℤ, pos, negsuc}
use lib.ListN.{length, drop, take, length-append, length-drop}
use lib.Seq.{drop-drop, drop-append_seam, take-append_seam, take-add, drop_at, length-take-le}
use borrow.Author.Tests.{lt-ltb, le-ltb, le-leb, ne_eqb}
use mir.Syntax.{w32}
use mir.Val.{SFits, to_z}
use mir.Facts.{to_z_pos, to_z-neg}
use Rattle.wire.specs.Told.{given}
use Rattle.proto_field.specs.declared.value.Value.TheVariants.{Number, Bytes}
use Rattle.proto_field.specs.Varint.{varint_from, varint_at}
use Rattle.proto_writer.specs.Varint.{digits_of, varint_bytes}
use Rattle.proto_field.specs.Signed.{signed_of, extended}
use Rattle.proto_field.specs.Tag.{last_field, bad_tag, tag_at}
use Rattle.proto_field.specs.Value.{value_at, bytes_of}
use Rattle.proto_writer.specs.Writer.{tag_bytes}
use Rattle.proto_field.proofs.Varints.{top}
use Rattle.proto_writer.proofs.Varints.{varint-count}

-- l stands in s from `at` on, and then rest
pub record At (s : List ℕ) (at : ℕ) (l rest : List ℕ) : Type 0 where
  pub there : drop at s ≡ l ++ rest

pub whole : (s : List ℕ) → At s 0 s []
whole s = record { there = sym (append-nil s) }

module _ {s : List ℕ} {at : ℕ} {rest : List ℕ} (l₁ l₂ : List ℕ) (a : At s at (l₁ ++ l₂) rest) where
  pub front : At s at l₁ (l₂ ++ rest)
  front = record { there = a.there ∙ append_assoc l₁ l₂ rest }

  pub behind : At s (at + length l₁) l₂ rest
  behind = record { there = sym (drop-drop (length l₁) at s) ∙ ap (drop (length l₁)) front.there ∙ drop-append_seam l₁ (l₂ ++ rest) }

-- there is room for it
pub inside : {s : List ℕ} {at : ℕ} {l rest : List ℕ} → At s at l rest → length l ≤ length s - at
inside {s} {at} {l} {rest} a = omega (arith, length-drop at s, ap length a.there, length-append l rest)

-- nothing follows it
pub last : {s : List ℕ} {at : ℕ} {l : List ℕ} → At s at l [] → length s ≤ at + length l
last {s} {at} {l} a = omega (arith, length-drop at s, ap length a.there, length-append l [])

-- it is what the part of its place and length holds
pub taken : {s : List ℕ} {at : ℕ} {l rest : List ℕ} → At s at l rest → bytes_of s (record { start = at; len = length l }) ≡ l
taken {s} {at} {l} {rest} a = ap (take (length l)) a.there ∙ take-append_seam l rest

-- it stands there, and nothing follows, in the first bytes up to its end
pub cut : {s : List ℕ} {at : ℕ} {l rest : List ℕ} → at ≤ length s → At s at l rest → At (take (at + length l) s) at l []
cut {s} {at} {l} {rest} h a =
    record {
      there =
          ap (drop at) (take-add at (length l) s) ∙ drop_at (take at s) (take (length l) (drop at s)) at (length-take-le at s h)
          ∙ taken a ∙ sym (append-nil l);
    }

-- ---- varints
digits-trip : (k v at : ℕ) (rest : List ℕ) → v < top k → varint_from k at (digits_of k v ++ rest) ≡ given (v, at + length (digits_of k v))
digits-trip zero v at rest t = rw (le-ltb 1 v (omega arith))
digits-trip (suc k) v at rest t = by_size (dec_lt v 128) (λ h. digits-trip k (v / 128) (at + 1) rest h)
  where
    by_size : Dec (v < 128)
        → (v / 128 < top k → varint_from k (at + 1) (digits_of k (v / 128) ++ rest) ≡ given (v / 128, at + 1 + length (digits_of k (v / 128))))
        → varint_from (suc k) at (digits_of (suc k) v ++ rest) ≡ given (v, at + length (digits_of (suc k) v))
    by_size (yes h) f = rw (lt-ltb v 128 h, lt-ltb v 128 h)
    by_size (no n) f =
        let place : at + 1 + length (digits_of k (v / 128)) ≡ at + suc (length (digits_of k (v / 128))) = omega arith in
        let value : v % 128 + 128 - 128 + 128 * (v / 128) ≡ v = omega arith in
        rw (le-ltb v 128 (omega arith), le-ltb (v % 128 + 128) 128 (omega arith), f (omega arith), value, place)

pub varint-trip : {s : List ℕ} {at : ℕ} {rest : List ℕ} (v : ℕ) → v < 2 ^ 64 → At s at (varint_bytes v) rest → varint_at s at ≡ given (v, at + length (varint_bytes v))
unfolding varint_at varint_bytes
varint-trip {s} {at} {rest} v h a = ap (varint_from 9 at) a.there ∙ digits-trip 9 v at rest h

-- ---- signed numbers
pub signed-trip : (z : ℤ) → SFits w32 z → signed_of (extended z) ≡ z
signed-trip (pos n) f =
    let e : n % 4294967296 ≡ n = omega (arith, f.sfits) in
    ap (to_z w32) e ∙ to_z_pos w32 f.sfits
signed-trip (negsuc n) f =
    let e : (18446744073709551616 - suc n) % 4294967296 ≡ 4294967296 - suc n = omega (arith, f.sfits) in
    ap (to_z w32) e ∙ to_z-neg w32 n f.sfits

pub extended_fits : (z : ℤ) → SFits w32 z → extended z < 2 ^ 64
extended_fits (pos n) f = omega (arith, f.sfits)
extended_fits (negsuc n) f = omega arith

-- ---- tags and values
pub tag-trip : {s : List ℕ} {at : ℕ} {rest : List ℕ} (f w : ℕ) → 1 ≤ f → f ≤ last_field → w ≤ 2 → At s at (tag_bytes f w) rest
    → tag_at s at ≡ given (record { field = f; wire = w; next = at + length (tag_bytes f w) })
unfolding tag_at tag_bytes bad_tag
tag-trip {s} {at} f w h₁ h₂ h₃ a =
    let q : (f * 8 + w) / 8 ≡ f = omega arith in
    let r : (f * 8 + w) % 8 ≡ w = omega arith in
    rw (varint-trip (f * 8 + w) (omega arith) a, q, r, ne_eqb f 0 (λ e. omega arith), le-ltb 536870911 f h₂, le-leb w 2 h₃)

pub number-trip : {s : List ℕ} {at : ℕ} {rest : List ℕ} (v : ℕ) → v < 2 ^ 64 → At s at (varint_bytes v) rest → value_at s at 0 ≡ given (Number v, at + length (varint_bytes v))
unfolding value_at
number-trip v h a = rw (varint-trip v h a)

pub part-trip : {s : List ℕ} {at : ℕ} {rest : List ℕ} (l : List ℕ) → length l < 2 ^ 64 → At s at (varint_bytes (length l) ++ l) rest
    → value_at s at 2 ≡ given (Bytes (record { start = at + length (varint_bytes (length l)); len = length l }), at + length (varint_bytes (length l)) + length l)
unfolding value_at
part-trip {s} {at} l h a =
    let n = varint_bytes (length l) in
    rw (
      varint-trip (length l) h (front n l a),
      le-ltb (length s) (at + length n + length l) (omega (arith, inside a, inside (behind n l a), length-append n l, varint-count (length l))),
    )
