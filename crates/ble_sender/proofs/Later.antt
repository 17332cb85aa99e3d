-- The writer's packets for a transaction, without starts: the first, and those for the bytes that are left after it.
use Prim.Native.Nat.{ℕ, zero, suc, ◌+◌, ◌-◌, ◌≤◌, ◌<◌}
use native.Mathlib.Omega.{arith}
use mathlib.Core.Path.{◌≡◌, refl, ap, ◌∙◌}
use mathlib.Core.List.{List, [], ◌∷◌, map}
use mathlib.Core.Bool.{Bool, true, false, cond, ◌&&◌}
use lib.ListN.{length, take, drop, length-drop}
use lib.Seq.{drop-drop}
use lib.Dec.{eqb}
use borrow.Author.Tests.{eq-eqb, ne_eqb, eqb-true, eqb-false}
use Rattle.ble_packet.specs.Header.{four_bits, sequence_after}
use Rattle.wire.proofs.Parts.{length_part}
use Rattle.ble_packet.proofs.Written.{first_packet, next_packet}
use Rattle.ble_sender.specs.declared.writer.Sending.{Sending}
use Rattle.ble_sender.specs.Piece.{least_room, extended, size_for, pieces_from}
use Rattle.ble_sender.specs.Writer.{header_bytes, packet_of, packets_of}
use Rattle.ble_sender.proofs.Largest.{size-le, size-some}

module _ (w : Sending) (m : List ℕ) where
  packet-first : (n : ℕ) → w.sequence < four_bits → n ≤ length m
      → packet_of w m (record { index = 0; start = 0; size = n })
      ≡ first_packet w.stream w.id w.sequence (eqb n (length m) && w.ack) (extended n) (length m) (take n m)
  unfolding packet_of header_bytes
  packet-first n l h =
      let z : 0 + n ≡ n = omega arith in
      let q : sequence_after w.sequence 0 ≡ w.sequence = omega arith in
      let s : length (take n m) ≡ n = length_part m 0 n (omega arith) in
      rw (z, q, s)

  packet-next : (i start n : ℕ) → start + n ≤ length m
      → packet_of w m (record { index = suc i; start = start; size = n })
      ≡ next_packet w.stream w.id (sequence_after w.sequence (suc i)) (eqb (start + n) (length m)) (eqb (start + n) (length m) && w.ack) (extended n) (take n (drop start m))
  unfolding packet_of header_bytes
  packet-next i start n h =
      let s : length (take n (drop start m)) ≡ n = length_part m start n h in
      rw (ne_eqb (suc i) 0 (λ e. omega arith), s)

-- ---- the packets for what is left

-- the next piece
abbrev pub next_size : ℕ → List ℕ → ℕ
next_size room rest = size_for room false (length rest)

abbrev pub next_last : ℕ → List ℕ → Bool
next_last room rest = eqb (next_size room rest) (length rest)

-- those from the packet with this sequence on
unfoldable pub later : ℕ → ℕ → ℕ → ℕ → ℕ → Bool → List ℕ → List (List ℕ)
later zero room stream id sequence ack rest = []
later (suc fuel) room stream id sequence ack rest =
    next_packet stream id sequence (next_last room rest) (next_last room rest && ack) (extended (next_size room rest)) (take (next_size room rest) rest)
    ∷ cond (next_last room rest) [] (later fuel room stream id (sequence_after sequence 1) ack (drop (next_size room rest) rest))

map-cond : {A B : Type 0} (f : A → B) (b : Bool) (xs : List A) → map f (cond b [] xs) ≡ cond b [] (map f xs)
map-cond f true xs = refl
map-cond f false xs = refl

-- a piece is the last where it takes all the rest
pub last-by : (start n rest length : ℕ) (b : Bool) → eqb n rest ≡ b → start + rest ≡ length → eqb (start + n) length ≡ b
last-by start n rest length true e t = let s = eqb-true n rest e in eq-eqb (start + n) length (omega arith)
last-by start n rest length false e t =
    let d : (n ≡ rest → ⊥) = eqb-false n rest e in ne_eqb (start + n) length (λ s. d (omega arith))

module _ (w : Sending) (m : List ℕ) (low : least_room ≤ w.room) where
  pub later-is : (fuel i start rest : ℕ) → start + rest ≡ length m
      → map (packet_of w m) (pieces_from fuel w.room (suc i) start rest)
      ≡ later fuel w.room w.stream w.id (sequence_after w.sequence (suc i)) w.ack (drop start m)
  unfolding later
  later-is zero i start rest t = refl
  later-is (suc fuel) i start rest t =
      let r : length (drop start m) ≡ rest = length-drop start m ∙ omega arith in
      let n : ℕ = size_for w.room false rest in
      let k : n ≤ rest = size-le w.room false low rest in
      let q : sequence_after (sequence_after w.sequence (suc i)) 1 ≡ sequence_after w.sequence (suc (suc i)) = omega arith in
      rw (ne_eqb (suc i) 0 (λ e. omega arith), r, drop-drop n start m, q, packet-next w m i start n (omega arith), last-by start n rest (length m) (eqb n rest) refl t)
      (rw (map-cond (packet_of w m) (eqb n rest) (pieces_from fuel w.room (suc (suc i)) (start + n) (rest - n)), later-is fuel (suc i) (start + n) (rest - n) (omega arith)))

  -- the packets of a transaction: the first, and those for what is left
  pub packets-are : w.sequence < four_bits
      → packets_of w m
      ≡ (let n : ℕ = size_for w.room true (length m) in
      first_packet w.stream w.id w.sequence (eqb n (length m) && w.ack) (extended n) (length m) (take n m)
      ∷ cond (eqb n (length m)) [] (later (length m) w.room w.stream w.id (sequence_after w.sequence 1) w.ack (drop n m)))
  packets-are l =
      let n : ℕ = size_for w.room true (length m) in
      let k : n ≤ length m = size-le w.room true low (length m) in
      let z : 0 + n ≡ n = omega arith in
      rw (
        packet-first w m n l k,
        map-cond (packet_of w m) (eqb n (length m)) (pieces_from (length m) w.room 1 (0 + n) (length m - n)),
        later-is (length m) 0 (0 + n) (length m - n) (omega arith),
        z,
      )

cond-by : {A : Type 0} (b : Bool) (x y : List A) → (b ≡ false → x ≡ y) → cond b [] x ≡ cond b [] y
cond-by true x y h = refl
cond-by false x y h = h refl

-- more fuel than bytes makes no difference
pub later-fuel : (f g room stream id sequence : ℕ) (ack : Bool) (rest : List ℕ) → least_room ≤ room → 1 ≤ length rest → length rest ≤ f → length rest ≤ g
    → later f room stream id sequence ack rest ≡ later g room stream id sequence ack rest
unfolding later
later-fuel zero g room stream id sequence ack rest low s hf hg = absurd (omega arith)
later-fuel (suc f) zero room stream id sequence ack rest low s hf hg = absurd (omega arith)
later-fuel (suc f) (suc g) room stream id sequence ack rest low s hf hg =
    let n : ℕ = next_size room rest in
    let some-piece : 1 ≤ n = size-some room false low (length rest) s in
    let small : n ≤ length rest = size-le room false low (length rest) in
    let left : length (drop n rest) ≡ length rest - n = length-drop n rest in
    ap (λ (x : List (List ℕ)). next_packet stream id sequence (next_last room rest) (next_last room rest && ack) (extended n) (take n rest) ∷ x)
    (cond-by (next_last room rest) _ _ (λ e.
    let d : (n ≡ length rest → ⊥) = eqb-false n (length rest) e in
    later-fuel f g room stream id (sequence_after sequence 1) ack (drop n rest) low (omega arith) (omega arith) (omega arith)))
