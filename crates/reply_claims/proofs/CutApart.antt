-- Joined packets, cut apart by their own headers.
use Prim.Native.Nat.{ℕ, zero, suc, ◌+◌, ◌-◌, ◌≤◌, ◌<◌}
use native.Mathlib.Omega.{arith}
use native.Mathlib.Nat.{div-add-mod'}
use mathlib.Core.Path.{◌≡◌, refl, sym, ap, ◌∙◌}
use mathlib.Core.List.{List, [], ◌∷◌, ◌++◌, map, append_assoc}
use mathlib.Core.Bool.{Bool, true, false, cond, ◌&&◌}
use lib.ListN.{length, take, drop, length-append}
use lib.Seq.{take_at, drop_at}
use lib.Dec.{eqb}
use Rattle.wire.specs.Bytes.{pair_bytes}
use Rattle.ble_packet.specs.Header.{type_first, header_size, first_byte, second_byte, sequence_after}
use Rattle.ble_packet.proofs.Headers.{type-back, extender-back}
use Rattle.ble_sender.specs.declared.piece.Piece.{Piece}
use Rattle.ble_sender.specs.declared.writer.Sending.{Sending}
use Rattle.ble_sender.specs.Piece.{least_room, extended, is_first, size_for, pieces_from}
use Rattle.ble_sender.specs.Writer.{type_for, total_bytes, header_bytes, is_last, packet_of}
use Rattle.ble_sender.proofs.Largest.{size-le}
use Rattle.ble_sender.proofs.Packets.{packet-length, header-some}
use Rattle.ble_joined.specs.Joined.{concat, joined_of}
use Rattle.ble_packet_end.specs.End.{said_by, said_length}
use Rattle.reply_claims.specs.Cut.{cut_from, cut_apart, JoinedCutApart}

-- what stands where the payload length does, by the extender
said-by : (first e : Bool) (stream id sequence kind : ℕ) (ack : Bool) (total n : ℕ) (rest : List ℕ)
    → said_by (first_byte stream id ∷ second_byte sequence kind ack e ∷ (total_bytes first total ++ (cond e (pair_bytes n) (n ∷ []) ++ rest))) first e
    ≡ header_size first e + n
said-by true true stream id sequence kind ack total n rest = ap (λ (x : ℕ). 7 + x) (div-add-mod' n 256)
said-by true false stream id sequence kind ack total n rest = refl
said-by false true stream id sequence kind ack total n rest = ap (λ (x : ℕ). 4 + x) (div-add-mod' n 256)
said-by false false stream id sequence kind ack total n rest = refl

kind-first : (first last : Bool) → eqb (type_for first last) type_first ≡ first
kind-first true last = refl
kind-first false true = refl
kind-first false false = refl

pub kind-low : (first last : Bool) → type_for first last < 4
kind-low true last = omega arith
kind-low false true = omega arith
kind-low false false = omega arith

sequence-low : (sequence n : ℕ) → sequence_after sequence n < 16
sequence-low sequence n = omega arith

-- a packet says how long it is, whatever follows it
module _ (w : Sending) (m : List ℕ) (p : Piece) where
  pub said : (rest : List ℕ) → said_length (packet_of w m p ++ rest) ≡ header_size (is_first p.index) (extended p.size) + p.size
  unfolding said_length packet_of header_bytes
  said rest =
      let first : Bool = is_first p.index in
      let last : Bool = is_last (length m) p in
      let sequence : ℕ = sequence_after w.sequence p.index in
      let ls : sequence < 16 = sequence-low w.sequence p.index in
      let lk : type_for first last < 4 = kind-low first last in
      let t = type-back sequence (type_for first last) (last && w.ack) (extended p.size) lk in
      let e = extender-back sequence (type_for first last) (last && w.ack) (extended p.size) in
      simp append_assoc
      (rw (t, e, kind-first first last)
      (said-by first (extended p.size) w.stream w.id sequence (type_for first last) (last && w.ack) (length m) p.size
      (take p.size (drop p.start m) ++ rest)))

cut-none : (fuel : ℕ) → cut_from fuel [] ≡ []
cut-none zero = refl
cut-none (suc fuel) = refl

cut-some : (fuel : ℕ) (s : List ℕ) → 1 ≤ length s → cut_from (suc fuel) s ≡ take (said_length s) s ∷ cut_from fuel (drop (said_length s) s)
cut-some fuel [] h = absurd (omega arith)
cut-some fuel (b ∷ s) h = refl

module _ (w : Sending) (m : List ℕ) where
  -- the packets of these pieces, joined, are cut apart
  abbrev Cuts : List Piece → Type 0
  Cuts ps = (fuel : ℕ) → length (concat (map (packet_of w m) ps)) ≤ fuel → cut_from fuel (concat (map (packet_of w m) ps)) ≡ map (packet_of w m) ps

  cuts_first : (p : Piece) (ps : List Piece) → p.start + p.size ≤ length m → Cuts ps → Cuts (p ∷ ps)
  cuts_first p ps inside later zero l =
      let n = packet-length w m p inside in
      let h = header-some (is_first p.index) (extended p.size) in
      let a = length-append (packet_of w m p) (concat (map (packet_of w m) ps)) in
      absurd (omega arith)
  cuts_first p ps inside later (suc fuel) l =
      let rest : List ℕ = concat (map (packet_of w m) ps) in
      let n = packet-length w m p inside in
      let h = header-some (is_first p.index) (extended p.size) in
      let a = length-append (packet_of w m p) rest in
      let s : said_length (packet_of w m p ++ rest) ≡ length (packet_of w m p) = said w m p rest ∙ sym n in
      cut-some fuel (packet_of w m p ++ rest) (omega arith)
      ∙ rw (s, take_at (packet_of w m p) rest (length (packet_of w m p)) refl, drop_at (packet_of w m p) rest (length (packet_of w m p)) refl)
      (ap (λ (qs : List (List ℕ)). packet_of w m p ∷ qs) (later fuel (omega arith)))

  cuts-tail : (last : Bool) (ps : List Piece) → Cuts ps → Cuts (cond last [] ps)
  cuts-tail true ps later fuel l = cut-none fuel
  cuts-tail false ps later fuel l = later fuel l

  cuts-from : least_room ≤ w.room → (fuel index start rest : ℕ) → start + rest ≤ length m → Cuts (pieces_from fuel w.room index start rest)
  cuts-from room zero index start rest h fuel l = cut-none fuel
  cuts-from room (suc fuel) index start rest h bytes k =
      let n : ℕ = size_for w.room (is_first index) rest in
      let l : n ≤ rest = size-le w.room (is_first index) room rest in
      let p : Piece = record { index = index; start = start; size = n } in
      let ps : List Piece = pieces_from fuel w.room (suc index) (start + n) (rest - n) in
      cuts_first p (cond (eqb n rest) [] ps) (omega arith) (cuts-tail (eqb n rest) ps (cuts-from room fuel (suc index) (start + n) (rest - n) (omega arith))) bytes k

pub joined-cut-apart : JoinedCutApart
unfolding cut_apart
joined-cut-apart w m room = cuts-from w m room (suc (length m)) 0 0 (length m) (omega arith) (length (joined_of w m)) (omega arith)
