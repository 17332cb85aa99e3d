-- What the table of refusals leaves: a piece that can be written.
use Prim.Native.Nat.{ℕ, zero, suc, ◌+◌, ◌-◌, ◌≤◌, ◌<◌}
use native.Mathlib.Omega.{arith}
use mathlib.Core.Path.{◌≡◌}
use mathlib.Core.List.{List, []}
use mathlib.Core.Bool.{Bool, true, false, cond}
use lib.Dec.{leb, eqb}
use lib.ListN.{length}
use lib.Seq.{sets}
use borrow.Author.Tests.{leb-true}
use Rattle.std.specs.Prelude.{Option, None, Some}
use Rattle.wire.specs.Stream.{is_stream}
use Rattle.wire.specs.Told.{Told, given, refused, Written, written}
use Rattle.wire.proofs.Tests.{and_left, and_right}
use Rattle.wire.proofs.Tables.{table-through}
use Rattle.ble_packet.specs.Header.{four_bits, in_range}
use Rattle.ble_packet.proofs.Headers.{in-range-low}
use Rattle.ble_sender.specs.declared.piece.Piece.{Piece}
use Rattle.ble_sender.specs.declared.writer.Sending.{Sending}
use Rattle.ble_sender.specs.declared.writer.Sent.{Sent}
use Rattle.ble_sender.specs.Piece.{least_room, is_first, size_for, pieces_from, piece_at}
use Rattle.ble_sender.specs.Writer.{packet_of, room_fits, arguments_fit, found_at, lines, sent_of, piece_of, written_of, decided, Writes}
use Rattle.ble_sender.proofs.Largest.{size-le, size_fits}

-- ---- the tests as facts

pub room-low : (room : ℕ) → room_fits room ≡ true → least_room ≤ room
unfolding room_fits
room-low room e = leb-true least_room room (and_left (leb least_room room) _ e)

pub record SendingInRange (limit : ℕ) (w : Sending) (length : ℕ) : Type 0 where
  pub known : is_stream w.stream ≡ true
  pub stream : w.stream < four_bits
  pub id : w.id < four_bits
  pub within : length ≤ limit

pub range-facts : (limit : ℕ) (w : Sending) (length : ℕ) → arguments_fit limit w length ≡ true → SendingInRange limit w length
unfolding arguments_fit in_range
range-facts limit w length e =
    let h = and_left (in_range w.stream w.id w.sequence) _ e in
    let low = in-range-low w.stream w.id w.sequence h in
    record {
      known = and_left (is_stream w.stream) _ h;
      stream = low.0;
      id = low.1;
      within = leb-true length limit (and_right (in_range w.stream w.id w.sequence) _ e);
    }

-- ---- every piece of a message in range can be written

abbrev WritesFound : Sending → ℕ → ℕ → Option Piece → Type 0
WritesFound w length space None = Unit {0}
WritesFound w length space (Some p) = Writes w length space p

module _ (limit : ℕ) (w : Sending) (length space : ℕ) (small : limit < 65536) (room : least_room ≤ w.room) (range : SendingInRange limit w length)
    (enough : w.room ≤ space) where
  head-writes : (index start rest : ℕ) → start + rest ≤ length
      → Writes w length space (record { index = index; start = start; size = size_for w.room (is_first index) rest })
  head-writes index start rest h =
      let n = size-le w.room (is_first index) room rest in
      let f = size_fits w.room (is_first index) room rest in
      let k : length ≤ limit = range.within in
      record {
        low-stream = range.stream;
        low-id = range.id;
        low-total = omega arith;
        inside = omega arith;
        header-fits = omega arith;
      }

  tail-by : (last : Bool) (q : ℕ) (ps : List Piece) → WritesFound w length space (piece_at q ps) → WritesFound w length space (piece_at q (cond last [] ps))
  tail-by true q ps h = tt
  tail-by false q ps h = h

  pieces-by : (b : Bool) (p : Piece) (o : Option Piece) → Writes w length space p → WritesFound w length space o → WritesFound w length space (cond b (Some p) o)
  pieces-by true p o h g = h
  pieces-by false p o h g = g

  pieces-write : (fuel index start rest q : ℕ) → start + rest ≤ length → WritesFound w length space (piece_at q (pieces_from fuel w.room index start rest))
  pieces-write zero index start rest q h = tt
  pieces-write (suc fuel) index start rest q h =
      let n : ℕ = size_for w.room (is_first index) rest in
      let l : n ≤ rest = size-le w.room (is_first index) room rest in
      pieces-by (eqb start q) _ _ (head-writes index start rest h)
      (tail-by (eqb n rest) q _ (pieces-write fuel (suc index) (start + n) (rest - n) q (omega arith)))

  pub found-writes : (place : ℕ) (p : Piece) → found_at w length place ≡ Some p → Writes w length space p
  found-writes place p e = rw e at (pieces-write (suc length) 0 0 length place (omega arith))

-- ---- the table decides, and then one thing is done

-- a refusal leaves the output; the packet of a piece stands first in it
abbrev pub done : Sending → List ℕ → List ℕ → Told Piece → Written Sent
done w m out (refused n) = written (refused n) out
done w m out (given p) = written (given (sent_of w m p)) (sets out 0 (packet_of w m p))

pub written-done : (limit : ℕ) (w : Sending) (m : List ℕ) (place : ℕ) (out : List ℕ)
    → written_of limit w m place out ≡ done w m out (decided limit w (length m) place (length out))
unfolding written_of decided
written-done limit w m place out =
    let found : Option Piece = found_at w (length m) place in
    table-through (done w m out) (lines limit w (length m) found (length out)) (piece_of found)
