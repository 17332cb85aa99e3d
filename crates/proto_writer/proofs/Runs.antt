-- Laws of bytes that are written one run after another, and of the runs that a field is made of.
use Prim.Native.Nat.{ℕ, ◌+◌, ◌*◌, ◌≤◌, ◌<◌}
use mathlib.Core.Path.{◌≡◌, refl, sym, ap, ◌∙◌}
use mathlib.Core.List.{List, [], ◌∷◌, ◌++◌, append-nil, map}
use native.Mathlib.Nat.{add-zero}
use native.Mathlib.Omega.{arith}
use native.Mathlib.Numerals.{add-one}
use lib.IntN.{ℤ, pos}
use lib.ListN.{length, drop, get_or, length-append, length-map, drop_of_length-le}
use lib.Seq.{sets, drop-cons}
use borrow.Author.Tests.{eq-eqb, ne_eqb}
use Rattle.wire.proofs.Stores.{sets_then}
use Rattle.wire.specs.Put.{Put}
use Rattle.proto_field.specs.Signed.{extended}
use Rattle.proto_writer.specs.Varint.{varint_bytes}
use Rattle.proto_writer.specs.Writer.{Field, scalar, text, packed, nested, tag_bytes, head_bytes, part_bytes, varints_bytes, field_bytes, message_bytes}

-- no bytes
pub put-none : (l : List ℕ) (at : ℕ) {bytes : List ℕ} → bytes ≡ [] → Put l at bytes at l
put-none l at e = rw e (record { place = sym (add-zero at); stored = refl })

-- one run, and another right after it
pub put_then : {l l₁ l₂ : List ℕ} {at n m : ℕ} {whole : List ℕ} (a b : List ℕ) → a ++ b ≡ whole → Put l at a n l₁ → Put l₁ n b m l₂
    → Put l at whole m l₂
put_then {l} {l₁} {l₂} {at} {n} {m} a b e p q =
    rw (← e)
    (record {
      place = omega (arith, p.place, q.place, length-append a b);
      stored = q.stored ∙ ap (λ (x : List ℕ). sets x n b) p.stored ∙ sets_then l at n a b p.place;
    })

pub joined_length : (a b : List ℕ) {whole : List ℕ} → a ++ b ≡ whole → length whole ≡ length a + length b
joined_length a b e = sym (ap length e) ∙ length-append a b

-- ---- a message, field by field
pub put-end : (l : List ℕ) (at : ℕ) → Put l at (message_bytes []) at l
put-end l at = put-none l at refl

pub put-field : {l l₁ l₂ : List ℕ} {at n m : ℕ} (f : Field) (fs : List Field) → Put l at (field_bytes f) n l₁ → Put l₁ n (message_bytes fs) m l₂
    → Put l at (message_bytes (f ∷ fs)) m l₂
put-field f fs p q = put_then (field_bytes f) (message_bytes fs) refl p q

pub message-length : (f : Field) (fs : List Field) → length (message_bytes (f ∷ fs)) ≡ length (field_bytes f) + length (message_bytes fs)
message-length f fs = length-append (field_bytes f) (message_bytes fs)

pub four-length : (f₁ f₂ f₃ f₄ : Field)
    → length (message_bytes (f₁ ∷ f₂ ∷ f₃ ∷ f₄ ∷ [])) ≡ length (field_bytes f₁) + length (field_bytes f₂) + length (field_bytes f₃) + length (field_bytes f₄)
four-length f₁ f₂ f₃ f₄ =
    omega (arith, message-length f₁ (f₂ ∷ f₃ ∷ f₄ ∷ []), message-length f₂ (f₃ ∷ f₄ ∷ []), message-length f₃ (f₄ ∷ []), message-length f₄ [])

-- ---- what a field is made of
pub scalar-none : (f v : ℕ) → v ≡ 0 → field_bytes (scalar f v) ≡ []
unfolding field_bytes
scalar-none f v e = rw (eq-eqb v 0 e)

pub scalar-some : (f v : ℕ) → (v ≡ 0 → ⊥) → varint_bytes (f * 8 + 0) ++ varint_bytes v ≡ field_bytes (scalar f v)
unfolding field_bytes tag_bytes
scalar-some f v n = rw (ne_eqb v 0 n)

pub head-is : (f n : ℕ) → varint_bytes (f * 8 + 2) ++ varint_bytes n ≡ head_bytes f n
unfolding head_bytes tag_bytes
head-is f n = refl

pub part-is : (f : ℕ) (l : List ℕ) → head_bytes f (length l) ++ l ≡ part_bytes f l
unfolding part_bytes
part-is f l = refl

-- a nested message that is the last field
pub nested-last : (f : ℕ) (l : List ℕ) → part_bytes f l ≡ message_bytes (nested f l ∷ [])
unfolding field_bytes
nested-last f l = sym (append-nil (part_bytes f l))

pub text-none : (f : ℕ) (l : List ℕ) → length l ≡ 0 → field_bytes (text f l) ≡ []
unfolding field_bytes
text-none f l e = rw (eq-eqb (length l) 0 e)

pub text-some : (f : ℕ) (l : List ℕ) → (length l ≡ 0 → ⊥) → part_bytes f l ≡ field_bytes (text f l)
unfolding field_bytes
text-some f l n = rw (ne_eqb (length l) 0 n)

pub packed_none : (f : ℕ) (l : List ℤ) → length l ≡ 0 → field_bytes (packed f (map extended l)) ≡ []
unfolding field_bytes
packed_none f l e = rw (eq-eqb (length (map extended l)) 0 (length-map l extended ∙ e))

pub packed-some : (f : ℕ) (l : List ℤ) → (length l ≡ 0 → ⊥)
    → head_bytes f (length (varints_bytes (map extended l))) ++ varints_bytes (map extended l) ≡ field_bytes (packed f (map extended l))
unfolding field_bytes part_bytes
packed-some f l n = rw (ne_eqb (length (map extended l)) 0 (λ e. n (sym (length-map l extended) ∙ e)))

-- ---- a list of signed numbers as varints: those from index i on
abbrev pub varints_from : List ℤ → ℕ → List ℕ
varints_from l i = varints_bytes (map extended (drop i l))

pub varints-next : (l : List ℤ) (i : ℕ) → i < length l → varints_from l i ≡ varint_bytes (extended (get_or l i (pos 0))) ++ varints_from l (i + 1)
varints-next l i h = rw (drop-cons l i (pos 0) h, add-one)

pub varints-end : (l : List ℤ) (i : ℕ) → length l ≤ i → varints_from l i ≡ []
varints-end l i h = rw (drop_of_length-le l h)
