-- The bytes of all packets, counted piece by piece.
use Prim.Native.Nat.{ℕ, ◌+◌, ◌-◌, ◌*◌, ◌≤◌, ◌<◌}
use native.Mathlib.Omega.{arith}
use mathlib.Core.Path.{◌≡◌, refl, ap}
use mathlib.Core.List.{[]}
use mathlib.Core.Bool.{Bool, true, false, cond, false≢true}
use lib.Dec.{ltb}
use borrow.Author.Tests.{ltb-true, ltb-false}
use Rattle.ble_packet.specs.Header.{header_size}
use Rattle.ble_sender.specs.Piece.{least_room, extended, is_first, size_for, pieces_of}
use Rattle.ble_joined.specs.Joined.{sizes}
use Rattle.ble_joined.proofs.Pieces.{rest_from, rest-whole, size_low, size-one, pieces-last, pieces_more}

pub record CountingPackets (room total index start sum : ℕ) (going : Bool) : Type 0 where
  pub low : start ≤ total
  pub few : going ≡ true → index ≤ start
  pub some : index ≤ start + 1
  pub bound : sum ≤ start + 7 * index
  pub left : sum + sizes (cond going (rest_from room total index start) []) ≡ sizes (pieces_of room total)

module _ (room total : ℕ) (enough : least_room ≤ room) where
  pub counting-start : CountingPackets room total 0 0 0 true
  counting-start = record { low = omega arith; few = λ e. omega arith; some = omega arith; bound = omega arith; left = omega (arith, ap sizes (rest-whole room total)) }

  module _ (index start sum n h : ℕ) (c : CountingPackets room total index start sum true) (en : n ≡ size_for room (is_first index) (total - start))
      (eh : h ≡ header_size (is_first index) (extended n)) (lh : h < 8) where
    counted : (b : Bool) → ltb n (total - start) ≡ b → CountingPackets room total (index + 1) (start + n) (sum + (h + n)) b
    counted true e =
        let x : n < total - start = ltb-true n (total - start) e in
        let few = c.few refl in
        let s = size-one room total index start n enough en x in
        let p = ap sizes (pieces_more room total index start n enough en few x) in
        let l = c.left in
        record { low = omega arith; few = λ e. omega arith; some = omega arith; bound = omega (arith, c.bound); left = omega arith }
    counted false e =
        let x : total - start ≤ n = ltb-false n (total - start) e in
        let y : n ≤ total - start = size_low room total index start n enough en in
        let few = c.few refl in
        let low = c.low in
        let p = ap sizes (pieces-last room total index start n enough en (omega arith)) in
        let l = c.left in
        record { low = omega arith; few = λ e. absurd (false≢true e); some = omega arith; bound = omega (arith, c.bound); left = omega arith }

    pub counting-next : CountingPackets room total (index + 1) (start + n) (sum + (h + n)) (ltb n (total - start))
    counting-next = counted (ltb n (total - start)) refl

  pub counting-end : (index start sum : ℕ) → CountingPackets room total index start sum false → sum ≡ sizes (pieces_of room total)
  counting-end index start sum c = let l = c.left in omega arith
