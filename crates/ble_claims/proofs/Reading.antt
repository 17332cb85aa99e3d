-- What the reader tells of a packet that the writer wrote.
use Prim.Native.Nat.{ℕ, ◌+◌, ◌≤◌, ◌<◌}
use native.Mathlib.Omega.{arith}
use mathlib.Core.Path.{◌≡◌}
use mathlib.Core.List.{List}
use mathlib.Core.Bool.{Bool, true, false, ◌&&◌}
use lib.ListN.{length, take, drop}
use lib.Seq.{take-take, drop_at}
use Rattle.wire.specs.Stream.{is_stream, stream_of}
use Rattle.wire.specs.Told.{given}
use Rattle.wire.proofs.Parts.{length_part}
use Rattle.ble_packet.specs.declared.reader.Head.{Head}
use Rattle.ble_packet.specs.declared.reader.Packet.TheVariants.{First, Next}
use Rattle.ble_packet.specs.Header.{four_bits, header_size, sequence_after}
use Rattle.ble_packet.specs.Reader.{read_of}
use Rattle.ble_packet.proofs.Reading as reading
use Rattle.ble_sender.specs.declared.piece.Piece.{Piece}
use Rattle.ble_sender.specs.declared.writer.Sending.{Sending}
use Rattle.ble_sender.specs.Piece.{extended, is_first}
use Rattle.ble_sender.specs.Writer.{header_bytes, is_last, packet_of}
use Rattle.ble_sender.proofs.Packets.{header-length}

abbrev pub head_for : Sending → Piece → Head
head_for w p = record { stream = stream_of w.stream; id = w.id; sequence = sequence_after w.sequence p.index }

module _ (limit : ℕ) (w : Sending) (m : List ℕ) (p : Piece) (known : is_stream w.stream ≡ true) (low : w.id < four_bits)
    (inside : p.start + p.size ≤ length m) where
  abbrev ack : Bool
  ack = is_last (length m) p && w.ack

  abbrev payload : List ℕ
  payload = take p.size (drop p.start m)

  size : length payload ≡ p.size
  size = length_part m p.start p.size inside

  pub first_read : is_first p.index ≡ true → length m ≤ limit → (p.size ≡ 0 → length m ≡ 0)
      → read_of limit (packet_of w m p) ≡ given (First (head_for w p) ack (length m) (header_size true (extended p.size)) p.size)
  unfolding packet_of header_bytes
  first_read i t f =
      let s : length payload ≡ p.size = size in
      rw i
      (rw s at
      (reading.first_read limit w.stream w.id (sequence_after w.sequence p.index) ack payload known low (omega arith) (extended p.size) (length m) t
      (λ e. f (omega arith)) (omega arith)))

  pub next-read : is_first p.index ≡ false → 1 ≤ p.size
      → read_of limit (packet_of w m p)
      ≡ given (Next (head_for w p) ack (is_last (length m) p) (header_size false (extended p.size)) p.size)
  unfolding packet_of header_bytes
  next-read i l =
      let s : length payload ≡ p.size = size in
      rw i
      (rw s at
      (reading.next-read limit w.stream w.id (sequence_after w.sequence p.index) ack payload known low (omega arith) (extended p.size) (is_last (length m) p)
      (omega arith)))

-- what stands behind the header is the piece
pub payload-read : (w : Sending) (m : List ℕ) (p : Piece)
    → take p.size (drop (header_size (is_first p.index) (extended p.size)) (packet_of w m p)) ≡ take p.size (drop p.start m)
unfolding packet_of
payload-read w m p =
    let header : List ℕ = header_bytes w (length m) p (is_last (length m) p) in
    let payload : List ℕ = take p.size (drop p.start m) in
    rw (drop_at header payload _ (header-length w (length m) p (is_last (length m) p))) (take-take p.size p.size (drop p.start m) (omega arith))
