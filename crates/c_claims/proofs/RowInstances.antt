-- An instance of fields of RowsAgree and StringsWellFormed, and each of NumbersJudged at the least number that is no byte.
use Prim.Native.Nat.{ℕ, suc, ◌≤◌}
use mathlib.Core.Path.{◌≡◌, refl}
use mathlib.Core.Logic.{◌⊎◌}
use mathlib.Core.Bool.{true}
use mathlib.Core.List.{List, [], ◌∷◌, ◌++◌, map}
use native.Mathlib.Omega.{arith}
use lib.ListN.{length, take, replicate, length-replicate}
use Rattle.ble_slot.specs.declared.Slot.{Slot}
use Rattle.ble_sender.specs.declared.piece.Piece.{Piece}
use Rattle.ble_sender.specs.declared.writer.Sending.{Sending}
use Rattle.ble_sender.specs.Piece.{pieces_of}
use Rattle.ble_sender.specs.Writer.{packet_of, packets_of, room_fits}
use Rattle.ble_joined.specs.Joined.{joined_of}
use Rattle.capture_reader.specs.Capture as capture
use Rattle.capture_judge.specs.Capture.{traced_of, walked_of}
use Rattle.capture_why.specs.Why.{why_of}
use Rattle.utf8.specs.WellFormed.{WellFormed}
use Rattle.wire.specs.Limit.{limit_fits}
use Rattle.ble_sender_claims.proofs.CallsGiveAll.{takes_all}
use Rattle.outbox_move_claims.specs.Claims.{records_of}
use Rattle.proto_field.specs.Fields.{found_at}
use Rattle.proto_field.specs.Tag.{tag_at, bad_tag}
use Rattle.proto_field.specs.Value.{value_at}
use Rattle.proto_field.specs.Varint.{varint_at}
use Rattle.proto_schema.specs.Schema.{role_of}
use Rattle.proto_reader.specs.Gathered.{no_part}
use Rattle.proto_reader.specs.Walk.{fields_from, field_at, read_at, added_at, judged}
use Rattle.msg_firmware.specs.declared.apply.ApplyFirmware.{ApplyFirmware}
use Rattle.msg_firmware.specs.Component.{no_component, component_from}
use Rattle.msg_firmware.specs.Information.{parts_from, component_in, components_from, firmware_from}
use Rattle.msg_firmware.specs.Apply.{firmware_in, apply_of, no_apply}
use Rattle.msg_apply_writer.specs.Apply.{apply_written}
use Rattle.c_message_rows.specs.Convert.{text_call}
use Rattle.c_firmware_rows.specs.Apply.{whole_row}
use Rattle.c_classic.specs.Calls.{frame_write_of}
use Rattle.c_classic_parts.specs.Calls.{frame_begin_of}
use Rattle.c_sending.specs.Convert.{sending_of}
use Rattle.c_sending.specs.Calls.{ack_write_of}
use Rattle.c_receiving.specs.Calls.{receiver_accept_of}
use Rattle.c_reply.specs.Convert.{link_of}
use Rattle.c_text.specs.Calls.{text_of}
use Rattle.c_judge.specs.Calls.{capture_judge_of, capture_why_of}
use Rattle.c_firmware.specs.Calls.{apply_write_of}
use Rattle.c_outbox.specs.Calls.{outbox_append_of}
use Rattle.c_claims.specs.RowsAgree.{packets_from, records_from, row_for, fronts_from, captured_from}
use Rattle.c_claims.proofs.RowsAgree.{rows_agree}
use Rattle.c_claims.proofs.NumbersJudged.{numbers-judged}
use Rattle.c_claims.proofs.Strings.{strings-well-formed}

-- any arguments in the ranges of docs/FORMATS.md
packets : (limit : ℕ) (how : Sending) (message out : List ℕ) → 1 ≤ limit → limit ≤ 65535 → 20 ≤ how.room → how.room ≤ 512
    → (how.stream ≡ 0) ⊎ (how.stream ≡ 2) ⊎ (how.stream ≡ 6) → how.id ≤ 15 → how.sequence ≤ 15 → length message ≤ limit → how.room ≤ length out
    → packets_from (suc (length message)) limit how message out (7 ∷ 7 ∷ []) 0 ≡ packets_of how message
packets limit how message out least most low high stream id sequence short space =
    rows_agree.packets limit how message out (7 ∷ 7 ∷ []) (takes_all limit how message out least most low high stream id sequence short space) refl

records : (file : List ℕ) → records_from (suc (length file)) file (replicate 6 7) 1 ≡ records_of file
records file = rows_agree.records file (replicate 6 7) refl

-- the joined packets of any message in these ranges
joined : (limit : ℕ) (how : Sending) (message : List ℕ) → 1 ≤ limit → limit ≤ 65535 → 20 ≤ how.room → how.room ≤ 512
    → (how.stream ≡ 0) ⊎ (how.stream ≡ 2) ⊎ (how.stream ≡ 6) → how.id ≤ 15 → how.sequence ≤ 15 → length message ≤ limit
    → fronts_from (suc (length (joined_of how message))) limit (replicate 10 7) (joined_of how message)
    ≡ map (λ (p : Piece). (packet_of how message p, row_for how (length message) p)) (pieces_of how.room (length message))
joined limit how message least most low high stream id sequence short =
    let out : List ℕ = replicate how.room 0 in
    rows_agree.joined limit how message out (replicate 10 7)
    (takes_all limit how message out least most low high stream id sequence short (omega (arith, length-replicate {A = ℕ} how.room 0))) refl

captured : (bytes : List ℕ) → captured_from (suc (length bytes)) bytes (replicate 5 7) 1 ≡ capture.packets_of bytes
captured bytes = rows_agree.captured bytes (replicate 5 7) refl

-- the judge's row stands in front of a refusal too: a length of one byte
abbrev cut : List ℕ
cut = 0x01 ∷ 0x00 ∷ []

why-cut : take 2 (capture_why_of cut 20 1 (replicate 31 7)).answer ≡ (capture_judge_of cut 20 1 (7 ∷ 7 ∷ [])).answer
unfolding capture_why_of why_of traced_of walked_of capture.packets_of capture.packets_from capture.front_of capture.other_version room_fits limit_fits
why-cut = (rows_agree.why 20 1 cut (replicate 31 7) (7 ∷ 7 ∷ []) refl refl).1 (λ e. omega arith)

text : (s : List ℕ) → ((text_of s (7 ∷ 7 ∷ [])).number ≡ 0 → WellFormed s) × (WellFormed s → (text_of s (7 ∷ 7 ∷ [])).number ≡ 0)
text s = strings-well-formed.text s (7 ∷ 7 ∷ []) refl

-- the least that is told: no bytes at all
apply-none : (texts out answer : List ℕ) → apply_write_of (whole_row no_apply) texts out answer ≡ text_call out answer (apply_written no_apply texts out)
unfolding component_from parts_from component_in components_from firmware_from firmware_in apply_of fields_from field_at read_at added_at judged role_of found_at tag_at bad_tag value_at varint_at
apply-none texts out answer = rows_agree.apply-told [] no_apply texts out answer refl

-- .. and the most: restart, eight components, and of the last of them the largest numbers
abbrev eight : List ℕ
eight =
    0x0A ∷ 0x22
    ∷ 0x08 ∷ 0xFF ∷ 0xFF ∷ 0xFF ∷ 0xFF ∷ 0x0F
    ∷ 0x1A ∷ 0x00 ∷ 0x1A ∷ 0x00 ∷ 0x1A ∷ 0x00 ∷ 0x1A ∷ 0x00 ∷ 0x1A ∷ 0x00 ∷ 0x1A ∷ 0x00 ∷ 0x1A ∷ 0x00
    ∷ 0x1A ∷ 0x0C ∷ 0x08 ∷ 0xFF ∷ 0xFF ∷ 0xFF ∷ 0xFF ∷ 0x0F ∷ 0x18 ∷ 0xFF ∷ 0xFF ∷ 0xFF ∷ 0xFF ∷ 0x0F
    ∷ 0x10 ∷ 0x01
    ∷ []

abbrev largest : ApplyFirmware
largest =
    record {
      firmware_information =
          record {
            version = 4294967295;
            name = no_part;
            components = replicate 7 no_component ++ (record { version = 4294967295; name = no_part; size = 4294967295; signature = no_part } ∷ []);
            count = 8;
            locale = no_part;
            version_name = no_part;
          };
      restart_required = true;
    }

apply-most : (texts out answer : List ℕ) → apply_write_of (whole_row largest) texts out answer ≡ text_call out answer (apply_written largest texts out)
unfolding component_from parts_from component_in components_from firmware_from firmware_in apply_of fields_from field_at read_at added_at judged role_of found_at tag_at bad_tag value_at varint_at
apply-most texts out answer = rows_agree.apply-told eight largest texts out answer refl

module _ (limit room stream id sequence ack positive total used : ℕ) (slots : List Slot) (state lent packet payload buffer out answer : List ℕ) where
  frames : (frame_write_of limit 256 payload out answer ≡ frame_write_of limit 0xF0 payload out answer) × (frame_begin_of limit 256 total state ≡ frame_begin_of limit 0xF0 total state)
  frames = (numbers-judged.frame-write limit 256 payload out answer (omega arith), numbers-judged.frame-begin limit 256 total state (omega arith))

  packet-numbers : (sending_of room 256 id sequence ack ≡ sending_of room 255 id sequence ack) × (sending_of room stream 256 sequence ack ≡ sending_of room stream 255 sequence ack)
      × (sending_of room stream id 256 ack ≡ sending_of room stream id 255 ack) × (sending_of room stream id sequence 2 ≡ sending_of room 255 id sequence 0)
  packet-numbers = (
    numbers-judged.packet-stream room 256 id sequence ack (omega arith),
    numbers-judged.packet-id room stream 256 sequence ack (omega arith),
    numbers-judged.packet-sequence room stream id 256 ack (omega arith),
    numbers-judged.packet-ack room stream id sequence 2 (omega arith),
  )

  acks : (ack_write_of 256 id sequence positive out answer ≡ ack_write_of 255 id sequence positive out answer)
      × (ack_write_of stream 256 sequence positive out answer ≡ ack_write_of stream 255 sequence positive out answer)
      × (ack_write_of stream id 256 positive out answer ≡ ack_write_of stream id 255 positive out answer)
      × (ack_write_of stream id sequence 2 out answer ≡ ack_write_of 255 id sequence 0 out answer)
  acks = (
    numbers-judged.ack-stream 256 id sequence positive out answer (omega arith),
    numbers-judged.ack-id stream 256 sequence positive out answer (omega arith),
    numbers-judged.ack-sequence stream id 256 positive out answer (omega arith),
    numbers-judged.ack-positive stream id sequence 2 out answer (omega arith),
  )

  accepted : receiver_accept_of state slots lent packet 256 out answer ≡ receiver_accept_of state slots lent packet 255 out answer
  accepted = numbers-judged.receiver-accept state slots lent packet 256 out answer (omega arith)

  links : (link_of room limit 256 sequence ≡ link_of room limit 255 sequence) × (link_of room limit id 256 ≡ link_of room limit id 255)
  links = (numbers-judged.reply-id room limit 256 sequence (omega arith), numbers-judged.reply-sequence room limit id 256 (omega arith))

  appended : outbox_append_of buffer used 256 payload answer ≡ outbox_append_of buffer used 255 payload answer
  appended = numbers-judged.outbox-append buffer used 256 payload answer (omega arith)
