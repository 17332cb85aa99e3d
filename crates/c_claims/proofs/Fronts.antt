-- Packets read one by one, by the rows: joined ones from end to end, and those of a capture from place to place.
use Prim.Native.Nat.{ℕ, zero, suc, ◌+◌, ◌-◌, ◌≤◌, ◌<◌, zero-le}
use native.Mathlib.Omega.{arith}
use mathlib.Core.Path.{◌≡◌, refl, sym, ap, ◌∙◌}
use mathlib.Core.Bool.{Bool, true, false, cond, ◌&&◌}
use mathlib.Core.List.{List, [], ◌∷◌, ◌++◌, map}
use lib.ListN.{length, get_or, take, drop, length-append}
use lib.Seq.{take_at, drop_at}
use lib.Dec.{eqb, leb, ltb}
use borrow.Author.Tests.{eq-eqb, ne_eqb, eqb-true, eqb-false}
use Rattle.wire.specs.Bytes.{bit}
use Rattle.wire.specs.Told.{Told, given, refused, and_then}
use Rattle.wire.proofs.Streams.{number-back}
use Rattle.ble_packet.specs.declared.reader.Packet.{Packet}
use Rattle.ble_packet.specs.declared.reader.Packet.TheVariants.{First, Next, Ack, Nack}
use Rattle.ble_packet.specs.Header.{type_control, type_bits, extender_bit, header_size, sequence_after}
use Rattle.ble_packet.specs.Control.{ack_size}
use Rattle.ble_packet.specs.Reader.{fields_of, lines, read_of}
use Rattle.ble_packet.proofs.Headers.{type-back, extender-back}
use Rattle.ble_packet_end.specs.End.{said_length, end_of, front_of}
use Rattle.ble_packet_end.proofs.Ends.{front_ends}
use Rattle.ble_sender.specs.declared.piece.Piece.{Piece}
use Rattle.ble_sender.specs.declared.writer.Sending.{Sending}
use Rattle.ble_sender.specs.Piece.{least_room, extended, is_first, size_for, pieces_from, pieces_of, piece_for}
use Rattle.ble_sender.specs.Writer.{type_for, header_bytes, is_last, packet_of}
use Rattle.ble_sender.proofs.Largest.{size-le, size-some}
use Rattle.ble_sender.proofs.Packets.{packet-length, header-some}
use Rattle.ble_sender.proofs.Guard.{SendingInRange, room-low, range-facts}
use Rattle.ble_sender_claims.specs.Calls.{SendableMessage}
use Rattle.ble_joined.specs.Joined.{concat, joined_of}
use Rattle.ble_claims.proofs.Reading.{head_for, first_read, next-read}
use Rattle.reply_claims.proofs.CutApart.{kind-low, said}
use Rattle.capture_reader.specs.Capture as capture
use Rattle.capture_reader.specs.Capture.{ToldAt, located, length_in, other_version}
use Rattle.capture_packet.specs.Place.{PacketItem, found, end, found_at, bad_place, packet_at}
use Rattle.capture_packet.proofs.Places.{onward, packets_at, places-give-all}
use Rattle.c_rows.specs.Row.{afterwards, number_told}
use Rattle.c_rows.specs.Called.{called}
use Rattle.c_packets.specs.Convert.{packet_row, front_row, captured_row}
use Rattle.c_packets.specs.Calls.{packet_read_of, capture_packet_of}
use Rattle.c_claims.proofs.Strings.{told-row}
use Rattle.c_claims.specs.RowsAgree.{row_for, front_by, fronts_from, captured_by, captured_from}

-- ---- captures, place after place

-- a call's row goes on as what was told, by the tests of the table
module _ (bytes answer : List ℕ) (one other : ℕ → ToldAt (List (List ℕ))) (same : (place : ℕ) → one place ≡ other place) where
  abbrev by_row : ToldAt PacketItem → ToldAt (List (List ℕ))
  by_row a = captured_by bytes one (called (capture.number_in a) [] [] (afterwards (capture.number_in a) answer (captured_row a)))

  same_turn : (place n : ℕ) (version bad over zeroed cut : Bool)
      → let front : Told ℕ = cond zeroed (refused 42) (cond cut (refused 41) (given n)) in
      let a : ToldAt PacketItem = cond version (refused (40, 0)) (cond bad (refused (15, 0)) (cond over (given end) (and_then (located place front) (λ n. given (found (found_at place n)))))) in
      by_row a ≡ and_then a (onward bytes other)
  same_turn place n true bad over zeroed cut = refl
  same_turn place n false true over zeroed cut = refl
  same_turn place n false false true zeroed cut = refl
  same_turn place n false false false true cut = refl
  same_turn place n false false false false true = refl
  same_turn place n false false false false false =
      ap (capture.before (take n (drop (place + 2) bytes))) (same (place + 2 + n))

module _ (bytes answer : List ℕ) (l : length answer ≡ 5) where
  same-places : (calls place : ℕ) → captured_from calls bytes answer place ≡ packets_at calls bytes place
  unfolding captured_from packets_at capture_packet_of packet_at capture.front_of
  same-places zero place = refl
  same-places (suc calls) place =
      let rest = drop place bytes in
      rw (eq-eqb (length answer) 5 l)
      (same_turn bytes answer (captured_from calls bytes answer) (packets_at calls bytes) (same-places calls) place (length_in rest)
      (other_version bytes) (bad_place bytes place) (eqb place (length bytes)) (leb 2 (length rest) && eqb (length_in rest) 0) (ltb (length rest) (2 + length_in rest)))

pub captured-agrees : (bytes answer : List ℕ) → length answer ≡ 5 → captured_from (suc (length bytes)) bytes answer 1 ≡ capture.packets_of bytes
captured-agrees bytes answer l = same-places bytes answer l (suc (length bytes)) 1 ∙ places-give-all bytes

-- ---- joined packets, from end to end

kind-message : (first last : Bool) → eqb (type_for first last) type_control ≡ false
kind-message true last = refl
kind-message false true = refl
kind-message false false = refl

-- a packet that was written, whatever follows it
module _ (w : Sending) (m : List ℕ) (p : Piece) (inside : p.start + p.size ≤ length m) (rest : List ℕ) where
  abbrev packet : List ℕ
  packet = packet_of w m p

  abbrev first : Bool
  first = is_first p.index

  abbrev last : Bool
  last = is_last (length m) p

  abbrev sequence : ℕ
  sequence = sequence_after w.sequence p.index

  end_is : end_of (packet ++ rest) ≡ length packet
  unfolding end_of packet_of header_bytes
  end_is =
      let t : type_bits (get_or (packet ++ rest) 1 0) ≡ type_for first last
      = type-back sequence (type_for first last) (last && w.ack) (extended p.size) (kind-low first last) in
      let c : eqb (type_bits (get_or (packet ++ rest) 1 0)) type_control ≡ false = ap (λ (k : ℕ). eqb k type_control) t ∙ kind-message first last in
      ap (λ (b : Bool). cond b ack_size (said_length (packet ++ rest))) c ∙ said w m p rest ∙ sym (packet-length w m p inside)

  extender-is : extender_bit (get_or (packet ++ rest) 1 0) ≡ extended p.size
  unfolding packet_of header_bytes
  extender-is = extender-back sequence (type_for first last) (last && w.ack) (extended p.size)

  front-is : (limit : ℕ) → front_of limit (packet ++ rest) ≡ read_of limit packet
  unfolding front_of
  front-is limit = ap (λ (n : ℕ). read_of limit (take n (packet ++ rest))) end_is ∙ ap (read_of limit) (take_at packet rest (length packet) refl)

  module _ (limit : ℕ) (answer : List ℕ) (l : length answer ≡ 10) where
    read-row : (x : Packet) → read_of limit packet ≡ given x
        → packet_read_of (packet ++ rest) limit answer ≡ called 0 [] [] (packet_row (length packet) (bit (extended p.size)) x)
    unfolding packet_read_of
    read-row x e = rw (eq-eqb (length answer) 10 l, front-is limit ∙ e, end_is, extender-is)

module _ (limit : ℕ) (w : Sending) (m answer : List ℕ) (room : least_room ≤ w.room) (ok : SendingInRange limit w (length m)) (l : length answer ≡ 10) where
  abbrev shown : Piece → List ℕ × List ℕ
  shown p = (packet_of w m p, row_for w (length m) p)

  -- the joined packets of these pieces are read so
  abbrev Fronts : List Piece → Type 0
  Fronts ps = (calls : ℕ) → length (concat (map (packet_of w m) ps)) < calls → fronts_from calls limit answer (concat (map (packet_of w m) ps)) ≡ map shown ps

  none_left : Fronts []
  unfolding fronts_from packet_read_of end_of said_length front_of read_of fields_of lines
  none_left zero h = refl
  none_left (suc calls) h = rw (eq-eqb (length answer) 10 l)

  -- what the writer was given is what is read
  module _ (p : Piece) (inside : p.start + p.size ≤ length m) where
    abbrev size : ℕ
    size = length (packet_of w m p)

    abbrev ext : ℕ
    ext = bit (extended p.size)

    first-row : is_first p.index ≡ true
        → packet_row size ext (First (head_for w p) (is_last (length m) p && w.ack) (length m) (header_size true (extended p.size)) p.size) ≡ row_for w (length m) p
    first-row i = rw (packet-length w m p inside, i, number-back w.stream ok.known)

    next_row : is_first p.index ≡ false
        → packet_row size ext (Next (head_for w p) (is_last (length m) p && w.ack) (is_last (length m) p) (header_size false (extended p.size)) p.size) ≡ row_for w (length m) p
    next_row i = rw (packet-length w m p inside, i, number-back w.stream ok.known)

    fronts-cons : (ps : List Piece) (x : Packet) → read_of limit (packet_of w m p) ≡ given x → packet_row size ext x ≡ row_for w (length m) p → Fronts ps → Fronts (p ∷ ps)
    unfolding fronts_from
    fronts-cons ps x e row later zero h = absurd (omega arith)
    fronts-cons ps x e row later (suc calls) h =
        let rest : List ℕ = concat (map (packet_of w m) ps) in
        let n = packet-length w m p inside in
        let some_bytes = header-some (is_first p.index) (extended p.size) in
        let a = length-append (packet_of w m p) rest in
        let r = read-row w m p inside rest limit answer l x e ∙ ap (called 0 [] []) row in
        ap (front_by (packet_of w m p ++ rest) (fronts_from calls limit answer)) r
        ∙ rw (take_at (packet_of w m p) rest (header_size (is_first p.index) (extended p.size) + p.size) n, drop_at (packet_of w m p) rest (header_size (is_first p.index) (extended p.size) + p.size) n)
        (ap (λ (qs : List (List ℕ × List ℕ)). shown p ∷ qs) (later calls (omega arith)))

  fronts-tail : (n rest : ℕ) (b : Bool) (ps : List Piece) → n ≤ rest → eqb n rest ≡ b → (1 ≤ rest - n → Fronts ps) → Fronts (cond b [] ps)
  fronts-tail n rest true ps h e later = none_left
  fronts-tail n rest false ps h e later =
      let d : (n ≡ rest → ⊥) = eqb-false n rest e in
      later (omega arith)

  fronts-later : (fuel index start rest : ℕ) → 1 ≤ rest → start + rest ≤ length m → Fronts (pieces_from fuel w.room (suc index) start rest)
  fronts-later zero index start rest some h = none_left
  fronts-later (suc fuel) index start rest some h =
      let n : ℕ = size_for w.room (is_first (suc index)) rest in
      let below : n ≤ rest = size-le w.room (is_first (suc index)) room rest in
      let p : Piece = piece_for (suc index) start n in
      let ps : List Piece = pieces_from fuel w.room (suc (suc index)) (start + n) (rest - n) in
      let i : is_first (suc index) ≡ false = ne_eqb (suc index) 0 (λ e. omega arith) in
      let inside : start + n ≤ length m = omega arith in
      fronts-cons p inside (cond (eqb n rest) [] ps) _
      (next-read limit w m p ok.known ok.id inside i (size-some w.room (is_first (suc index)) room rest some)) (next_row p inside i)
      (fronts-tail n rest (eqb n rest) ps below refl (λ more. fronts-later fuel (suc index) (start + n) (rest - n) more (omega arith)))

  fronts-all : Fronts (pieces_from (suc (length m)) w.room 0 0 (length m))
  fronts-all =
      let rest : ℕ = length m in
      let n : ℕ = size_for w.room true rest in
      let below : n ≤ rest = size-le w.room true room rest in
      let p : Piece = piece_for 0 0 n in
      let ps : List Piece = pieces_from rest w.room 1 (0 + n) (rest - n) in
      let inside : 0 + n ≤ length m = omega arith in
      fronts-cons p inside (cond (eqb n rest) [] ps) _
      (first_read limit w m p ok.known ok.id inside refl ok.within (empty-only (eqb rest 0) refl)) (first-row p inside refl)
      (fronts-tail n rest (eqb n rest) ps below refl (λ more. fronts-later rest 0 (0 + n) (rest - n) more (omega arith)))
    where
      empty-only : (b : Bool) → eqb (length m) 0 ≡ b → size_for w.room true (length m) ≡ 0 → length m ≡ 0
      empty-only true e z = eqb-true (length m) 0 e
      empty-only false e z =
          let d : (length m ≡ 0 → ⊥) = eqb-false (length m) 0 e in
          let s : 1 ≤ size_for w.room true (length m) = size-some w.room true room (length m) (omega arith) in
          absurd (omega arith)

pub joined-agrees : (limit : ℕ) (how : Sending) (message out answer : List ℕ) → SendableMessage limit how message out → length answer ≡ 10
    → fronts_from (suc (length (joined_of how message))) limit answer (joined_of how message)
    ≡ map (λ (p : Piece). (packet_of how message p, row_for how (length message) p)) (pieces_of how.room (length message))
joined-agrees limit how message out answer takes l =
    fronts-all limit how message answer (room-low how.room takes.room) (range-facts limit how (length message) takes.arguments) l
    (suc (length (joined_of how message))) (omega arith)

-- ---- an end that is told
pub packet-within : (limit : ℕ) (bytes answer : List ℕ) → let c = packet_read_of bytes limit answer in c.number ≡ 0 → get_or c.answer 0 0 ≤ length bytes
unfolding packet_read_of
packet-within limit bytes answer =
    let front = front_of limit bytes in
    told-row 10 (number_told front) answer (front_row (end_of bytes) (bit (extender_bit (get_or bytes 1 0))) front) (λ (row : List ℕ). get_or row 0 0 ≤ length bytes) (lies front refl)
  where
    lies : (t : Told Packet) → front_of limit bytes ≡ t → get_or (front_row (end_of bytes) (bit (extender_bit (get_or bytes 1 0))) t) 0 0 ≤ length bytes
    lies (refused n) e = zero-le
    lies (given (First h ack total start len)) e = front_ends bytes limit _ e
    lies (given (Next h ack last start len)) e = front_ends bytes limit _ e
    lies (given (Ack h)) e = front_ends bytes limit _ e
    lies (given (Nack h)) e = front_ends bytes limit _ e
