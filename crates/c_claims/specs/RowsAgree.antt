-- The claim that rows agree with what the library itself tells: what a C caller carries from one call to the next is taken as what the first
-- told of. The row of an ApplyFirmware, the row of a report and the state rows are taken as what they were made of; the row of a field tells what
-- stands at the place; who goes on at each next place gets all packets of a message and of a capture and all records of a file; and who cuts
-- joined packets where each is told to end gets the writer's, each with a row of what the writer was given. Why a capture is not lawful is told
-- with the judge's verdict.
use Rattle.std.specs.Prelude.{ℕ, zero, suc, ◌+◌, ◌≤◌, ◌<◌, ◌≡◌, true, cond, ◌&&◌, List, [], ◌∷◌, map, length, get_or, take, drop, eqb}
use Rattle.wire.specs.Bytes.{bit}
use Rattle.wire.specs.Told.{given, refused}
use Rattle.proto_field.specs.declared.value.Part.{Part}
use Rattle.proto_field.specs.declared.value.Value.{Value}
use Rattle.proto_field.specs.declared.value.Value.TheVariants.{Number, Bytes, Skipped}
use Rattle.proto_field.specs.Fields.{Standing, field, end}
use Rattle.msg_firmware.specs.declared.component.FirmwareComponent.{FirmwareComponent}
use Rattle.msg_firmware.specs.declared.apply.ApplyFirmware.{ApplyFirmware}
use Rattle.msg_firmware.specs.Apply.{apply_of}
use Rattle.msg_apply_writer.specs.Apply.{apply_written}
use Rattle.msg_firmware_claims.specs.RoundTrip.{Unsigned32}
use Rattle.c_message_rows.specs.Convert.{text_call}
use Rattle.c_firmware_rows.specs.Apply.{whole_row}
use Rattle.c_firmware_rows.specs.FieldRow.{standing_row}
use Rattle.c_firmware.specs.Calls.{apply_write_of}
use Rattle.capture_report.specs.declared.CostReport.{CostReport}
use Rattle.c_report.specs.Convert.{report_row, report_at}
use Rattle.classic_extractor.specs.declared.state.Progress.{Progress}
use Rattle.c_classic.specs.Convert.{is_extractor, extractor_of, extractor_row}
use Rattle.classic_parts.specs.declared.state.PartProgress.{PartProgress}
use Rattle.c_classic_parts.specs.Convert as convert
use Rattle.c_classic_parts.specs.Convert.{is_state, state_of}
use Rattle.ble_receiver.specs.declared.Receiver.{Receiver}
use Rattle.c_receiving.specs.Convert as receiving
use Rattle.c_receiving.specs.Convert.{limit_of}
use Rattle.ble_packet.specs.Header.{header_size, sequence_after}
use Rattle.ble_sender.specs.declared.piece.Piece.{Piece}
use Rattle.ble_sender.specs.declared.writer.Sending.{Sending}
use Rattle.ble_sender.specs.Piece.{extended, is_first, pieces_of}
use Rattle.ble_sender.specs.Writer.{type_for, is_last, packet_of, packets_of}
use Rattle.ble_joined.specs.Joined.{joined_of}
use Rattle.ble_sender_claims.specs.Calls.{SendableMessage}
use Rattle.c_sending.specs.Calls.{packet_write_of}
use Rattle.capture_reader.specs.Capture as capture
use Rattle.capture_reader.specs.Capture.{ToldAt, before}
use Rattle.c_packets.specs.Calls.{packet_read_of, capture_packet_of}
use Rattle.c_judge.specs.Calls.{capture_judge_of, capture_why_of}
use Rattle.outbox_claims.specs.Claims.{Entry}
use Rattle.outbox_move_claims.specs.Claims.{records_of}
use Rattle.c_outbox.specs.Calls.{outbox_record_of}
use Rattle.c_rows.specs.Called.{Called}

abbrev pub NumbersFit : List FirmwareComponent → Type 0
NumbersFit [] = Unit {0}
NumbersFit (c ∷ cs) = (Unsigned32 c.version × Unsigned32 c.size) × NumbersFit cs

-- what a field's row tells: kind 0 is a number, kind 2 a part, any other bytes that are passed over
abbrev pub row_value : List ℕ → Value
row_value row =
    let part : Part = record { start = get_or row 4 0; len = get_or row 5 0 } in
    cond (eqb (get_or row 2 0) 0) (Number (get_or row 3 0)) (cond (eqb (get_or row 2 0) 2) (Bytes part) (Skipped part))

abbrev pub row_standing : List ℕ → Standing
row_standing row = cond (eqb (get_or row 0 0) 0) end (field (get_or row 1 0) (row_value row) (get_or row 6 0))

-- the packet of a call that returns 0, and those of the calls from its next place on, until that is the message's end
abbrev pub packet_by : ℕ → (ℕ → List (List ℕ)) → Called → List (List ℕ)
packet_by size later c =
    cond (eqb c.number 0)
    (take (get_or c.answer 0 0) c.lent ∷ cond (eqb (get_or c.answer 1 0) size) [] (later (get_or c.answer 1 0)))
    []

-- at most `calls` calls, over one output and one answer row
unfoldable pub packets_from : ℕ → ℕ → Sending → List ℕ → List ℕ → List ℕ → ℕ → List (List ℕ)
packets_from zero limit how message out answer place = []
packets_from (suc calls) limit how message out answer place =
    let c = packet_write_of limit how message place out answer in
    packet_by (length message) (packets_from calls limit how message c.lent answer) c

-- what is read of the packet of a piece: its length, then what the writer was given
abbrev pub row_for : Sending → ℕ → Piece → List ℕ
row_for how total p =
    let first = is_first p.index in
    let last = is_last total p in
    let header = header_size first (extended p.size) in
    (header + p.size) ∷ how.stream ∷ how.id ∷ sequence_after how.sequence p.index ∷ type_for first last ∷ bit (last && how.ack)
    ∷ bit (extended p.size) ∷ cond first total 0 ∷ header ∷ p.size ∷ []

-- the packet at the front, as far as a call that returns 0 says, with its row, and those of the calls from its end on
abbrev pub front_by : List ℕ → (List ℕ → List (List ℕ × List ℕ)) → Called → List (List ℕ × List ℕ)
front_by bytes later c =
    cond (eqb c.number 0)
    ((take (get_or c.answer 0 0) bytes, c.answer) ∷ later (drop (get_or c.answer 0 0) bytes))
    []

-- at most `calls` calls, over one answer row
unfoldable pub fronts_from : ℕ → ℕ → List ℕ → List ℕ → List (List ℕ × List ℕ)
fronts_from zero limit answer bytes = []
fronts_from (suc calls) limit answer bytes = front_by bytes (fronts_from calls limit answer) (packet_read_of bytes limit answer)

-- the packet of a call that returns 0 and has one, and those of the calls from its next place on; or a refusal, with its place
abbrev pub captured_by : List ℕ → (ℕ → ToldAt (List (List ℕ))) → Called → ToldAt (List (List ℕ))
captured_by bytes later c =
    cond (eqb c.number 0)
    (cond (eqb (get_or c.answer 0 0) 1) (before (take (get_or c.answer 2 0) (drop (get_or c.answer 1 0) bytes)) (later (get_or c.answer 3 0))) (given []))
    (refused (c.number, get_or c.answer 4 0))

unfoldable pub captured_from : ℕ → List ℕ → List ℕ → ℕ → ToldAt (List (List ℕ))
captured_from zero bytes answer place = given []
captured_from (suc calls) bytes answer place = captured_by bytes (captured_from calls bytes answer) (capture_packet_of bytes place answer)

-- the record of a call that returns 0 and has one, and those of the calls from its next place on
abbrev pub record_by : List ℕ → (ℕ → List Entry) → Called → List Entry
record_by file later c =
    cond (eqb c.number 0 && eqb (get_or c.answer 0 0) 1)
    (record { stream = get_or c.answer 1 0; payload = take (get_or c.answer 3 0) (drop (get_or c.answer 2 0) file) } ∷ later (get_or c.answer 4 0))
    []

unfoldable pub records_from : ℕ → List ℕ → List ℕ → ℕ → List Entry
records_from zero file answer place = []
records_from (suc calls) file answer place = record_by file (records_from calls file answer) (outbox_record_of file place answer)

pub record RowsAgree : Type 0 where
  -- an ApplyFirmware whose numbers its type holds, with at most eight components
  pub apply : (a : ApplyFirmware) (texts out answer : List ℕ) → Unsigned32 a.firmware_information.version
      → length a.firmware_information.components ≡ 8 → NumbersFit a.firmware_information.components → a.firmware_information.count ≤ 8
      → apply_write_of (whole_row a) texts out answer ≡ text_call out answer (apply_written a texts out)
  -- .. as is every one that was read from a message
  pub apply-told : (message : List ℕ) (a : ApplyFirmware) (texts out answer : List ℕ) → apply_of message ≡ given a
      → apply_write_of (whole_row a) texts out answer ≡ text_call out answer (apply_written a texts out)
  pub field : (s : Standing) → row_standing (standing_row s) ≡ s
  pub report : (r : CostReport) → report_at (report_row r) ≡ r
  -- a state row that was written is taken as that state, and one that is taken is the row of its state: no number of it is cut
  pub extractor : (limit : ℕ) (s : Progress) → s.sequence < 256
      → (is_extractor (extractor_row limit s) ≡ true) × (extractor_of (extractor_row limit s) ≡ record { limit = limit; progress = s })
  pub extractor-row : (row : List ℕ) → is_extractor row ≡ true
      → ((extractor_of row).progress.sequence < 256) × (extractor_row (extractor_of row).limit (extractor_of row).progress ≡ row)
  pub parts : (limit : ℕ) (s : PartProgress) → s.sequence < 256 → s.sum < 65536
      → (is_state (convert.state_row limit s) ≡ true) × (state_of (convert.state_row limit s) ≡ record { limit = limit; progress = s })
  pub parts-row : (row : List ℕ) → is_state row ≡ true
      → ((state_of row).progress.sequence < 256) × ((state_of row).progress.sum < 65536)
      × (convert.state_row (state_of row).limit (state_of row).progress ≡ row)
  pub receiver : (x : Receiver) → limit_of (receiving.state_row x) ≡ x.limit
  -- the calls for a message, each at the next place that the one before it told, give all its packets
  pub packets : (limit : ℕ) (how : Sending) (message out answer : List ℕ) → SendableMessage limit how message out → length answer ≡ 2
      → packets_from (suc (length message)) limit how message out answer 0 ≡ packets_of how message
  -- the calls for a file, each at the next place that the one before it told, give all records before its end or its first refusal
  pub records : (file answer : List ℕ) → length answer ≡ 6 → records_from (suc (length file)) file answer 1 ≡ records_of file
  -- the joined packets of a message, each read from where the one before it ends, are those that the writer writes, with what it was given
  pub joined : (limit : ℕ) (how : Sending) (message out answer : List ℕ) → SendableMessage limit how message out → length answer ≡ 10
      → fronts_from (suc (length (joined_of how message))) limit answer (joined_of how message)
      ≡ map (λ (p : Piece). (packet_of how message p, row_for how (length message) p)) (pieces_of how.room (length message))
  -- a packet that a call tells ends within the bytes, whatever they are
  pub packet-within : (limit : ℕ) (bytes answer : List ℕ) → let c = packet_read_of bytes limit answer in c.number ≡ 0 → get_or c.answer 0 0 ≤ length bytes
  -- the calls for a capture, each at the next place that the one before it told, give all its packets, or its refusal with its place
  pub captured : (bytes answer : List ℕ) → length answer ≡ 5 → captured_from (suc (length bytes)) bytes answer 1 ≡ capture.packets_of bytes
  -- the judge's number, and its row in front
  pub why : (room limit : ℕ) (capture answer row : List ℕ) → length answer ≡ 31 → length row ≡ 2
      → let w = capture_why_of capture room limit answer in
      let j = capture_judge_of capture room limit row in
      (w.number ≡ j.number) × ((w.number ≡ 1 → ⊥) → take 2 w.answer ≡ j.answer)
