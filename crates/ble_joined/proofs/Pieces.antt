-- The pieces of a message from an index and a start on, and the bytes of their packets.
use Prim.Native.Nat.{ℕ, zero, suc, ◌+◌, ◌-◌, ◌≤◌, ◌<◌}
use native.Mathlib.Omega.{arith}
use native.Mathlib.Numerals.{add-one}
use mathlib.Core.Path.{◌≡◌, refl}
use mathlib.Core.List.{List, [], ◌∷◌, map}
use mathlib.Core.Bool.{Bool, true, false, cond}
use lib.ListN.{length, length-append}
use lib.Dec.{eqb}
use borrow.Author.Tests.{eq-eqb, ne_eqb, eqb-true, eqb-false}
use Rattle.ble_sender.specs.declared.piece.Piece.{Piece}
use Rattle.ble_sender.specs.declared.writer.Sending.{Sending}
use Rattle.ble_sender.specs.Piece.{least_room, is_first, size_for, pieces_from, pieces_of, piece_for}
use Rattle.ble_sender.specs.Writer.{packet_of}
use Rattle.ble_sender.proofs.Largest.{size-le, size-some}
use Rattle.ble_sender.proofs.Packets.{packet-length}
use Rattle.ble_joined.specs.Joined.{concat, joined_of, sizes}

abbrev pub rest_from : ℕ → ℕ → ℕ → ℕ → List Piece
rest_from room total index start = pieces_from (suc (total - index)) room index start (total - start)

pub rest-whole : (room total : ℕ) → rest_from room total 0 0 ≡ pieces_of room total
rest-whole room total = let z : total - 0 ≡ total = omega arith in rw z

module _ (room total index start n : ℕ) (enough : least_room ≤ room) (en : n ≡ size_for room (is_first index) (total - start)) where
  pub size_low : n ≤ total - start
  size_low = rw en (size-le room (is_first index) enough (total - start))

  pub pieces-last : n ≡ total - start → rest_from room total index start ≡ piece_for index start n ∷ []
  pieces-last h = rw (← en, eq-eqb n (total - start) h)

  pub pieces_more : index ≤ start → n < total - start
      → rest_from room total index start ≡ piece_for index start n ∷ rest_from room total (index + 1) (start + n)
  pieces_more few h =
      let a : total - index ≡ suc (total - (index + 1)) = omega arith in
      let b : total - start - n ≡ total - (start + n) = omega arith in
      rw (← en, ne_eqb n (total - start) (λ e. omega arith), a, b, add-one)

  pub size-one : n < total - start → 1 ≤ n
  size-one h = rw en (size-some room (is_first index) enough (total - start) (omega arith))

-- their packets have at least the bytes that are left
sizes-tail : (b : Bool) (n rest : ℕ) (ps : List Piece) → eqb n rest ≡ b → (b ≡ false → rest - n ≤ sizes ps) → n ≤ rest → rest - n ≤ sizes (cond b [] ps)
sizes-tail true n rest ps e f l = let h = eqb-true n rest e in omega arith
sizes-tail false n rest ps e f l = f refl

pub some_left : (n rest : ℕ) → n ≤ rest → eqb n rest ≡ false → n < rest
some_left n rest l e = let d : (n ≡ rest → ⊥) = eqb-false n rest e in omega arith

pub sizes-rest : (fuel room index start rest : ℕ) → least_room ≤ room → rest < fuel → rest ≤ sizes (pieces_from fuel room index start rest)
sizes-rest zero room index start rest enough f = absurd (omega arith)
sizes-rest (suc fuel) room index start rest enough f =
    let n : ℕ = size_for room (is_first index) rest in
    let l : n ≤ rest = size-le room (is_first index) enough rest in
    let later : (eqb n rest ≡ false → rest - n ≤ sizes (pieces_from fuel room (suc index) (start + n) (rest - n))) =
    (λ e. let x : n < rest = some_left n rest l e in
    let s : 1 ≤ n = size-some room (is_first index) enough rest (omega arith) in
    sizes-rest fuel room (suc index) (start + n) (rest - n) enough (omega arith)) in
    let t = sizes-tail (eqb n rest) n rest (pieces_from fuel room (suc index) (start + n) (rest - n)) refl later l in
    omega arith

-- the length of all of them together
pub total-fits : (room total : ℕ) → least_room ≤ room → total ≤ sizes (pieces_of room total)
total-fits room total enough = sizes-rest (suc total) room 0 0 total enough (omega arith)

module _ (w : Sending) (m : List ℕ) (enough : least_room ≤ w.room) where
  long-tail : (b : Bool) (ps : List Piece) → length (concat (map (packet_of w m) ps)) ≡ sizes ps
      → length (concat (map (packet_of w m) (cond b [] ps))) ≡ sizes (cond b [] ps)
  long-tail true ps e = refl
  long-tail false ps e = e

  long-from : (fuel index start rest : ℕ) → start + rest ≤ length m
      → length (concat (map (packet_of w m) (pieces_from fuel w.room index start rest))) ≡ sizes (pieces_from fuel w.room index start rest)
  long-from zero index start rest h = refl
  long-from (suc fuel) index start rest h =
      let n : ℕ = size_for w.room (is_first index) rest in
      let l : n ≤ rest = size-le w.room (is_first index) enough rest in
      let p : Piece = record { index = index; start = start; size = n } in
      let ps : List Piece = pieces_from fuel w.room (suc index) (start + n) (rest - n) in
      let k = packet-length w m p (omega arith) in
      let a = length-append (packet_of w m p) (concat (map (packet_of w m) (cond (eqb n rest) [] ps))) in
      let t = long-tail (eqb n rest) ps (long-from fuel (suc index) (start + n) (rest - n) (omega arith)) in
      omega arith

  pub joined-long : length (joined_of w m) ≡ sizes (pieces_of w.room (length m))
  joined-long = long-from (suc (length m)) 0 0 (length m) (omega arith)
