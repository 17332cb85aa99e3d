-- The packet of a piece: its size, and that its parts, stored one after another, are it.
use Prim.Native.Nat.{ℕ, ◌+◌, ◌-◌, ◌≤◌}
use native.Mathlib.Omega.{arith}
use mathlib.Core.Path.{◌≡◌, refl, sym, ap, ◌∙◌}
use mathlib.Core.List.{List, ◌++◌}
use mathlib.Core.Bool.{Bool, true, false}
use lib.ListN.{length, take, drop, length-append}
use lib.Seq.{sets}
use Rattle.wire.proofs.Stores.{sets_then}
use Rattle.wire.proofs.Parts.{length_part}
use Rattle.ble_packet.specs.Header.{start_size, length_place, header_size}
use Rattle.ble_sender.specs.declared.piece.Piece.{Piece}
use Rattle.ble_sender.specs.declared.writer.Sending.{Sending}
use Rattle.ble_sender.specs.Piece.{extended, is_first}
use Rattle.ble_sender.specs.Writer.{start_bytes, total_bytes, length_bytes, header_bytes, is_last, packet_of, sent_for, sent_of}

-- the total ends where the payload length stands, and that ends where the payload begins
length-total : (first : Bool) (total : ℕ) → start_size + length (total_bytes first total) ≡ length_place first
length-total true total = refl
length-total false total = refl

-- no header has fewer bytes than a following packet's
pub header-some : (first e : Bool) → 3 ≤ header_size first e
header-some true true = omega arith
header-some true false = omega arith
header-some false true = omega arith
header-some false false = omega arith

pub length-by : (first : Bool) (n : ℕ) (b : Bool) → extended n ≡ b → length_place first + length (length_bytes n) ≡ header_size first (extended n)
length-by true n true e = rw e
length-by true n false e = rw e
length-by false n true e = rw e
length-by false n false e = rw e

module _ (w : Sending) (total : ℕ) (p : Piece) (last : Bool) where
  abbrev first : Bool
  first = is_first p.index

  pub header-length : length (header_bytes w total p last) ≡ header_size first (extended p.size)
  unfolding header_bytes
  header-length =
      let t = length-total first total in
      let l = length-by first p.size (extended p.size) refl in
      simp length-append (omega arith)

  -- the parts of the header, stored one after another
  pub header-stored : (out : List ℕ)
      → sets (sets (sets out 0 (start_bytes w p last)) start_size (total_bytes first total)) (length_place first) (length_bytes p.size)
      ≡ sets out 0 (header_bytes w total p last)
  unfolding header_bytes
  header-stored out =
      let start : List ℕ = start_bytes w p last in
      let middle : List ℕ = total_bytes first total in
      let t = length-total first total in
      rw (sets_then out 0 start_size start middle refl)
      (sets_then out 0 (length_place first) (start ++ middle) (length_bytes p.size) (simp length-append (omega arith)))

module _ (w : Sending) (m : List ℕ) (p : Piece) (inside : p.start + p.size ≤ length m) where
  abbrev header : List ℕ
  header = header_bytes w (length m) p (is_last (length m) p)

  pub packet-length : length (packet_of w m p) ≡ header_size (is_first p.index) (extended p.size) + p.size
  unfolding packet_of
  packet-length =
      let h = header-length w (length m) p (is_last (length m) p) in
      let l = length_part m p.start p.size inside in
      simp length-append (omega arith)

  -- the payload copied behind the header, and what is told
  pub packet-stored : (out : List ℕ) (at : ℕ) → at ≡ header_size (is_first p.index) (extended p.size)
      → (sent_for (is_last (length m) p) (at + p.size) (p.start + p.size) ≡ sent_of w m p)
      × (sets (sets out 0 header) at (take (p.start + p.size - p.start) (drop p.start m)) ≡ sets out 0 (packet_of w m p))
  unfolding packet_of
  packet-stored out at e =
      let z : p.start + p.size - p.start ≡ p.size = omega arith in
      let h = header-length w (length m) p (is_last (length m) p) in
      let payload : List ℕ = take p.size (drop p.start m) in
      let l : length (header ++ payload) ≡ at + p.size = packet-length ∙ ap (λ (n : ℕ). n + p.size) (sym e) in
      (rw l, rw (z, sets_then out 0 at header payload (omega arith)))
