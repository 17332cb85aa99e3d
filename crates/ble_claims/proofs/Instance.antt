-- P4 as an instance of the claim: all of it computed, and the message by the claim itself.
use Prim.Native.Nat.{ℕ, ◌*◌}
use native.Mathlib.Omega.{arith}
use mathlib.Core.Path.{◌≡◌, refl}
use mathlib.Core.Logic.{◌⊎◌, inr}
use mathlib.Core.Option.{none, some}
use mathlib.Core.List.{List, [], ◌∷◌}
use mathlib.Core.Bool.{true}
use lib.ListN.{length, get_or, drop}
use Rattle.wire.specs.Those.{those}
use Rattle.wire.specs.declared.stream.Stream.TheVariants.{Alexa}
use Rattle.wire.specs.Limit.{limit_fits}
use Rattle.wire.specs.Stream.{is_stream, stream_of}
use Rattle.ble_packet.specs.Header.{in_range}
use Rattle.ble_packet.specs.Reader.{fields_of, content_of, lines, read_of}
use Rattle.ble_slot.specs.declared.Slot.{Slot}
use Rattle.ble_slot.specs.Slot.{slot_count, lawful_slot, lawful}
use Rattle.ble_slot_steps.specs.Step.{finish, hold, drop_by, first_step, next_step}
use Rattle.ble_receiver.specs.Receiver.{PacketCall, ready, read_in, accept_of}
use Rattle.ble_sender.specs.declared.writer.Sending.{Sending}
use Rattle.ble_sender.specs.Piece.{size_for}
use Rattle.ble_sender.specs.Writer.{header_bytes, packet_of, room_fits, arguments_fit, written_of}
use Rattle.ble_sender_claims.specs.Calls.{calls_from, calls_of, SendableMessage}
use Rattle.ble_sender_claims.proofs.CallsGiveAll.{takes_all}
use Rattle.ble_claims.specs.Delivery.{run_of, row_after, replies_to, ours, has_slot, packets_in, shown, shown_in, shown_to, all_answerable, Arrived}
use Rattle.ble_claims.proofs.MessagesArrive.{round_trip}
use Rattle.ble_claims.specs.Instance.{limit, how, message, output, slots, buffer, eight, before, first, later, after, ArrivalInstance}

law : lawful limit slots ≡ true
unfolding lawful_slot lawful
law = refl

takes : SendableMessage limit how message output
takes = takes_all limit how message output (omega arith) (omega arith) (omega arith) (omega arith) (inr (inr refl)) (omega arith) (omega arith) (omega arith) (omega arith)

begins : first.packet ≡ get_or (calls_of limit how message output) 0 []
unfolding limit_fits is_stream in_range size_for header_bytes packet_of room_fits arguments_fit written_of calls_from
begins = refl

sent : packets_in (those (ours how) later) ≡ drop 1 (calls_of limit how message output)
unfolding limit_fits is_stream in_range size_for header_bytes packet_of room_fits arguments_fit written_of calls_from
sent = refl

can-answer : all_answerable (first ∷ those (ours how) later) ≡ true
can-answer = refl

free : has_slot (row_after limit slots buffer before) how ≡ true
unfolding limit_fits is_stream stream_of fields_of content_of lines read_of lawful_slot lawful finish hold drop_by first_step next_step ready read_in accept_of row_after
free = refl

arrived : shown_to limit how (replies_to limit slots buffer before (first ∷ later) after)
    ≡ shown (some 9) none eight
    ∷ shown (some 9) none eight
    ∷ shown (some 9) (some (record { stream = Alexa; id = 1; total = 35; ack = true; payload = message })) (0x61 ∷ 0x9E ∷ 0x00 ∷ 0x02 ∷ 0x01 ∷ 0x00 ∷ 0xEE ∷ 0xEE ∷ [])
    ∷ []
unfolding limit_fits is_stream stream_of fields_of content_of lines read_of lawful_slot lawful finish hold drop_by first_step next_step ready read_in accept_of run_of
arrived = refl

pub arrives : ArrivalInstance
arrives =
    record {
      law = law;
      size = refl;
      takes = takes;
      begins = begins;
      sent = sent;
      answerable = can-answer;
      free = free;
      arrived = arrived;
      claimed = λ claim. claim limit slots buffer before first later after how message output law refl takes begins sent can-answer free;
    }

-- RoundTrip at the smallest and the largest limit, of any message
round-at : (limit : ℕ) → (limit ≡ 1) ⊎ (limit ≡ 65535)
    → (slots : List Slot) (bytes : List ℕ) (first : PacketCall) (later : List PacketCall) (w : Sending) (m out : List ℕ)
    → lawful limit slots ≡ true → length bytes ≡ slot_count * limit → SendableMessage limit w m out → first.packet ≡ get_or (calls_of limit w m out) 0 []
    → packets_in later ≡ drop 1 (calls_of limit w m out) → all_answerable (first ∷ later) ≡ true → has_slot slots w ≡ true
    → Arrived w m first later (shown_in limit (run_of limit slots bytes (first ∷ later)))
round-at limit ends = round_trip limit
