-- Laws of varints: the turns of the loop that reads one, and where one ends.
use Prim.Native.Nat.{ℕ, zero, suc, ◌+◌, ◌-◌, ◌*◌, ◌≤◌, ◌<◌, ◌^◌}
use mathlib.Core.Path.{◌≡◌, refl, ap, ◌∙◌}
use mathlib.Core.List.{List, [], ◌∷◌}
use native.Mathlib.Nat.{mul-le-mul_left, mul-add, mul_assoc, mul_comm}
use native.Mathlib.Numerals.{add-one}
use native.Mathlib.Omega.{arith}
use native.Mathlib.Decide.{dec_le}
use lib.ListN.{length, drop, get_or, drop_of_length-le, length-drop}
use lib.Seq.{drop-cons}
use lib.Dec.{ltb}
use borrow.Author.Tests.{lt-ltb, le-ltb}
use Rattle.wire.specs.Told.{Told, given, refused}
use Rattle.wire.proofs.Tests.{by_cond}
use Rattle.proto_field.specs.Varint.{more, varint_from, varint_at}
use Rattle.proto_field.proofs.Told.{Sat, sat-given}

-- values of which k bytes follow the first are below top k
abbrev pub top : ℕ → ℕ
top zero = 2
top (suc k) = top k * 128

-- what was read before p: value, in digits below weight
abbrev pub grown : ℕ → ℕ → Told (ℕ × ℕ) → Told (ℕ × ℕ)
grown value weight (given p) = given (value + weight * p.0, p.1)
grown value weight (refused e) = refused e

pub grown-none : (p : Told (ℕ × ℕ)) → grown 0 1 p ≡ p
grown-none (given p) = ap (λ (x : ℕ). given (x, p.1)) (omega arith)
grown-none (refused e) = refl

grown-more : (value weight b : ℕ) (p : Told (ℕ × ℕ)) → grown value weight (more b p) ≡ grown (value + weight * (b - 128)) (weight * 128) p
grown-more value weight b (given p) =
    ap (λ (x : ℕ). given (x, p.1)) (omega (arith, mul-add weight (b - 128) (128 * p.0), mul_assoc weight 128 p.0))
grown-more value weight b (refused e) = refl

-- ---- the bounds of the reading loop, where weight * top left is 2 ^ 64
top_pos : (k : ℕ) → 2 ≤ top k
top_pos zero = omega arith
top_pos (suc k) = omega (arith, top_pos k)

pub digits : {value weight d : ℕ} → value < weight → d < 128 → value + weight * d < weight * 128
digits {value} {weight} {d} h l = omega (arith, mul-le-mul_left {m = d} {n = 127} weight (omega arith))

pub less_one : (k : ℕ) → suc k - 1 ≡ k
less_one k = omega arith

pub room-more : (weight left : ℕ) → weight * top left ≡ 2 ^ 64 → (left ≡ 0 → ⊥) → weight * 128 ≤ 2 ^ 63
room-more weight zero e n = absurd (n refl)
room-more weight (suc k) e n =
    omega (arith, mul-le-mul_left (weight * 128) (top_pos k), mul_assoc weight 128 (top k), ap (λ (x : ℕ). weight * x) (mul_comm (top k) 128))

pub room_next : (weight left : ℕ) → weight * top left ≡ 2 ^ 64 → (left ≡ 0 → ⊥) → weight * 128 * top (left - 1) ≡ 2 ^ 64
room_next weight zero e n = absurd (n refl)
room_next weight (suc k) e n =
    ap (λ (x : ℕ). weight * 128 * top x) (less_one k) ∙ mul_assoc weight 128 (top k) ∙ ap (λ (x : ℕ). weight * x) (mul_comm 128 (top k)) ∙ e

pub last_fits : (value weight left b : ℕ) → weight * top left ≡ 2 ^ 64 → value < weight → left ≡ 0 → b ≤ 1 → value + weight * b < 2 ^ 64
last_fits value weight left b e h z l = omega (arith, mul-le-mul_left weight l, rw z at e)

-- ---- the reading loop's turns: what the varint at i is, by the byte there
pub at-end : (k i : ℕ) (s : List ℕ) → length s ≤ i → varint_from k i (drop i s) ≡ refused 30
at-end zero i s h = rw (drop_of_length-le s h)
at-end (suc k) i s h = rw (drop_of_length-le s h)

drop_here : (s : List ℕ) (i : ℕ) → i < length s → drop i s ≡ get_or s i 0 ∷ drop (i + 1) s
drop_here s i h = rw add-one (drop-cons s i 0 h)

module _ (left i : ℕ) (s : List ℕ) (inside : i < length s) where
  pub turn-over : left ≡ 0 → 1 < get_or s i 0 → varint_from left i (drop i s) ≡ refused 31
  turn-over z h = rw (z, drop_here s i inside, lt-ltb 1 (get_or s i 0) h)

  pub turn_last : left ≡ 0 → get_or s i 0 ≤ 1 → varint_from left i (drop i s) ≡ given (get_or s i 0, i + 1)
  turn_last z h = rw (z, drop_here s i inside, le-ltb 1 (get_or s i 0) h)

pub turn-short : (left i : ℕ) (s : List ℕ) → i < length s → (left ≡ 0 → ⊥) → get_or s i 0 < 128 → varint_from left i (drop i s) ≡ given (get_or s i 0, i + 1)
turn-short zero i s inside n h = absurd (n refl)
turn-short (suc k) i s inside n h = rw (drop_here s i inside, lt-ltb (get_or s i 0) 128 h)

-- a varint of one byte
pub varint-short : (s : List ℕ) (at : ℕ) → at < length s → get_or s at 0 < 128 → varint_at s at ≡ given (get_or s at 0, at + 1)
unfolding varint_at
varint-short s at inside h = turn-short 9 at s inside (λ z. omega arith) h

turn_more : (left i : ℕ) (s : List ℕ) → i < length s → (left ≡ 0 → ⊥) → 128 ≤ get_or s i 0
    → varint_from left i (drop i s) ≡ more (get_or s i 0) (varint_from (left - 1) (i + 1) (drop (i + 1) s))
turn_more zero i s inside n h = absurd (n refl)
turn_more (suc k) i s inside n h = rw (drop_here s i inside, le-ltb (get_or s i 0) 128 h, less_one k)

pub turn-grown : (value weight left i : ℕ) (s : List ℕ) → i < length s → (left ≡ 0 → ⊥) → 128 ≤ get_or s i 0
    → grown value weight (varint_from left i (drop i s))
    ≡ grown (value + weight * (get_or s i 0 - 128)) (weight * 128) (varint_from (left - 1) (i + 1) (drop (i + 1) s))
turn-grown value weight left i s inside n h =
    ap (grown value weight) (turn_more left i s inside n h)
    ∙ grown-more value weight (get_or s i 0) (varint_from (left - 1) (i + 1) (drop (i + 1) s))

-- ---- what was read ends after its place, within the message, and is a number of 64 bits
abbrev pub Ends : ℕ → ℕ → ℕ × ℕ → Type 0
Ends at last p = (at < p.1) × (p.1 ≤ last)

ends_more : (at last b : ℕ) (r : Told (ℕ × ℕ)) → Sat (Ends (at + 1) last) r → Sat (Ends at last) (more b r)
ends_more at last b (given p) h = omega arith
ends_more at last b (refused e) h = tt

ends-from : (k at last : ℕ) (s : List ℕ) → at + length s ≤ last → Sat (Ends at last) (varint_from k at s)
ends-from zero at last [] h = tt
ends-from (suc k) at last [] h = tt
ends-from zero at last (b ∷ s) h = by_cond (Sat (Ends at last)) (ltb 1 b) (refused 31) (given (b, at + 1)) (λ _. tt) (λ _. omega arith)
ends-from (suc k) at last (b ∷ s) h =
    by_cond (Sat (Ends at last)) (ltb b 128) (given (b, at + 1)) (more b (varint_from k (at + 1) s))
    (λ _. omega arith)
    (λ _. ends_more at last b (varint_from k (at + 1) s) (ends-from k (at + 1) last s (omega arith)))

pub varint-ends : (s : List ℕ) (at : ℕ) → Sat (Ends at (length s)) (varint_at s at)
unfolding varint_at
varint-ends s at = by_place (dec_le at (length s))
  where
    by_place : Dec (at ≤ length s) → Sat (Ends at (length s)) (varint_from 9 at (drop at s))
    by_place (yes h) = ends-from 9 at (length s) (drop at s) (omega (arith, length-drop at s))
    by_place (no n) = rw (at-end 9 at s (omega arith)) tt

pub varint-next : (s : List ℕ) (at v n : ℕ) → varint_at s at ≡ given (v, n) → (at < n) × (n ≤ length s)
varint-next s at v n e = sat-given (Ends at (length s)) (varint_at s at) (v, n) (varint-ends s at) e
