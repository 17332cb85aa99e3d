-- The largest number that passes a test, and the size of a piece in closed form.
use Prim.Native.Nat.{ℕ, zero, suc, ◌+◌, ◌-◌, ◌≤◌, ◌<◌, min}
use native.Mathlib.Omega.{arith}
use mathlib.Core.Path.{◌≡◌, refl, sym, ◌∙◌}
use mathlib.Core.Bool.{Bool, true, false, cond}
use lib.Dec.{leb, eqb}
use borrow.Author.Tests.{le-leb, lt-leb, leb-true, leb-false, ltb-true, ltb-false, eqb-true, eqb-false}
use Rattle.wire.specs.Bytes.{bit}
use Rattle.ble_packet.specs.Header.{least_header, header_size}
use Rattle.ble_sender.specs.Piece.{least_room, one_byte_length, extended, fits, largest, size_for, full_size}

largest-by : (test : ℕ → Bool) (n k : ℕ) (b : Bool) → eqb k (suc n) ≡ b → k ≤ suc n → test k ≡ true → ((j : ℕ) → k < j → j ≤ suc n → test j ≡ false)
    → (k ≤ n → largest test n ≡ k) → largest test (suc n) ≡ k
largest-by test n k true e l t f later = let q : suc n ≡ k = sym (eqb-true k (suc n) e) in rw (q, t)
largest-by test n k false e l t f later =
    let d : (k ≡ suc n → ⊥) = eqb-false k (suc n) e in
    rw (f (suc n) (omega arith) (omega arith)) (later (omega arith))

-- a number that passes, above which none does up to the bound, is the largest
pub largest-is : (test : ℕ → Bool) (n k : ℕ) → k ≤ n → test k ≡ true → ((j : ℕ) → k < j → j ≤ n → test j ≡ false) → largest test n ≡ k
largest-is test zero k l t f = omega arith
largest-is test (suc n) k l t f =
    largest-by test n k (eqb k (suc n)) refl l t f (λ l2. largest-is test n k l2 t (λ j a b. f j a (omega arith)))

either-le : (n m : ℕ) (b : Bool) → m ≤ n → cond b (suc n) m ≤ suc n
either-le n m true l = omega arith
either-le n m false l = omega arith

pub largest-le : (test : ℕ → Bool) (n : ℕ) → largest test n ≤ n
largest-le test zero = omega arith
largest-le test (suc n) = either-le n (largest test n) (test (suc n)) (largest-le test n)

-- nothing passes
pub largest-none : (test : ℕ → Bool) (n : ℕ) → ((j : ℕ) → j ≤ n → test j ≡ false) → largest test n ≡ 0
largest-none test zero f = refl
largest-none test (suc n) f = rw (f (suc n) (omega arith)) (largest-none test n (λ j l. f j (omega arith)))

-- ---- the size of a piece

-- what the code computes: the room without the least header, one less where that needs the extender
abbrev pub closed : ℕ → Bool → ℕ
closed room first = cond (leb (room - least_header first) one_byte_length) (room - least_header first) (room - least_header first - 1)

bit-of : (n : ℕ) (b : Bool) → extended n ≡ b → (bit (extended n) ≤ 1) × (n ≤ one_byte_length → bit (extended n) ≡ 0) × (one_byte_length < n → bit (extended n) ≡ 1)
bit-of n true e = let h = ltb-true one_byte_length n e in rw e (omega arith, (λ l. absurd (omega arith)), (λ l. refl))
bit-of n false e = let h = ltb-false one_byte_length n e in rw e (omega arith, (λ l. refl), (λ l. absurd (omega arith)))

module _ (room h : ℕ) (enough : h ≤ room) where
  closed-fits : (b : Bool) → leb (room - h) one_byte_length ≡ b → (k : ℕ) → k ≤ cond b (room - h) (room - h - 1) → h + bit (extended k) + k ≤ room
  closed-fits true e k l =
      let a : room - h ≤ one_byte_length = leb-true (room - h) one_byte_length e in
      let x : bit (extended k) ≡ 0 = (bit-of k (extended k) refl).1 (omega arith) in
      omega arith
  closed-fits false e k l =
      let a : one_byte_length < room - h = leb-false (room - h) one_byte_length e in
      let x : bit (extended k) ≤ 1 = (bit-of k (extended k) refl).0 in
      omega arith

  closed-over : (b : Bool) → leb (room - h) one_byte_length ≡ b → (j : ℕ) → cond b (room - h) (room - h - 1) < j → room < h + bit (extended j) + j
  closed-over true e j l = omega arith
  closed-over false e j l =
      let a : one_byte_length < room - h = leb-false (room - h) one_byte_length e in
      let x : bit (extended j) ≡ 1 = (bit-of j (extended j) refl).2 (omega arith) in
      omega arith

  closed-bounds : h < room → (b : Bool) → leb (room - h) one_byte_length ≡ b → (0 < cond b (room - h) (room - h - 1)) × (cond b (room - h) (room - h - 1) ≤ room)
  closed-bounds more true e = omega arith
  closed-bounds more false e = let a : one_byte_length < room - h = leb-false (room - h) one_byte_length e in omega arith

least-low : (first : Bool) → least_header first ≤ 6
least-low true = omega arith
least-low false = omega arith

-- a room in which a header fits
module _ (room : ℕ) (first : Bool) (enough : least_header first ≤ room) where
  fits_below : (k : ℕ) → k ≤ closed room first → header_size first (extended k) + k ≤ room
  fits_below = closed-fits room (least_header first) enough (leb (room - least_header first) one_byte_length) refl

  pub size-closed : (rest : ℕ) → size_for room first rest ≡ min rest (closed room first)
  unfolding size_for
  size-closed rest =
      let c : ℕ = closed room first in
      largest-is (fits room first) rest (min rest c) (omega arith)
      (le-leb (header_size first (extended (min rest c)) + min rest c) room (fits_below (min rest c) (omega arith)))
      (λ j a b. lt-leb (header_size first (extended j) + j) room
      (closed-over room (least_header first) enough (leb (room - least_header first) one_byte_length) refl j (omega arith)))

-- a room in which none does
pub size_none : (room : ℕ) (first : Bool) (rest : ℕ) → room < least_header first → size_for room first rest ≡ 0
unfolding size_for
size_none room first rest less = largest-none (fits room first) rest (λ j l. lt-leb (header_size first (extended j) + j) room (omega arith))

module _ (room : ℕ) (first : Bool) (enough : least_room ≤ room) where
  low : least_header first < room
  low = let l = least-low first in omega arith

  enclosed : least_header first ≤ room
  enclosed = omega (arith, low)

  bounds : (0 < closed room first) × (closed room first ≤ room)
  bounds = closed-bounds room (least_header first) enclosed low (leb (room - least_header first) one_byte_length) refl

  -- the size of a full piece
  pub full-closed : full_size room first ≡ closed room first
  full-closed = let b = bounds in size-closed room first enclosed room ∙ omega arith

  pub full-some : 0 < full_size room first
  full-some = rw full-closed bounds.0

  -- a piece is full, or all the rest
  pub size_is : (rest : ℕ) → size_for room first rest ≡ min rest (full_size room first)
  size_is rest = size-closed room first enclosed rest ∙ rw full-closed

  pub size_fits : (rest : ℕ) → header_size first (extended (size_for room first rest)) + size_for room first rest ≤ room
  size_fits rest = rw (size-closed room first enclosed rest) (fits_below room first enclosed (min rest (closed room first)) (omega arith))

  pub size-le : (rest : ℕ) → size_for room first rest ≤ rest
  size-le rest = rw (size-closed room first enclosed rest) (omega arith)

  -- no piece is empty but that of an empty message
  pub size-some : (rest : ℕ) → 1 ≤ rest → 1 ≤ size_for room first rest
  size-some rest h = let b = bounds in rw (size-closed room first enclosed rest) (omega arith)
