-- Refusal 1 changes nothing.
use Prim.Native.Nat.{ℕ, ◌+◌, ◌-◌}
use mathlib.Core.Path.{◌≡◌, refl}
use mathlib.Core.Bool.{Bool, true, false, cond, not, ◌&&◌, ◌||◌}
use mathlib.Core.List.{List, [], ◌∷◌, map}
use native.Mathlib.Omega.{arith}
use lib.IntN.{ℤ}
use lib.ListN.{length, take, replicate}
use lib.Seq.{sets}
use lib.Dec.{eqb, ltb}
use Rattle.wire.specs.Told.{given, refused, line, table, WrittenOf, written}
use Rattle.wire.specs.Limit.{limit_fits}
use Rattle.wire.proofs.Tables.{by-table}
use Rattle.proto_field.specs.Signed.{signed_of, extended}
use Rattle.proto_writer.specs.Writer.{Field, message_bytes}
use Rattle.classic_frame.specs.Mark.{start_mark, is_mark}
use Rattle.classic_frame.specs.Frame.{frame_of}
use Rattle.classic_extractor.specs.declared.state.Progress.{Progress}
use Rattle.classic_extractor.specs.State.{ready, empty, open_of}
use Rattle.classic_extractor.specs.Step.{advance_of, step}
use Rattle.classic_extractor.specs.Outcome as extractor
use Rattle.classic_feed.specs.Feed.{feed_from, fed}
use Rattle.classic_writer.specs.Writer.{write_of}
use Rattle.classic_parts.specs.State.{beginning, bad_start, lawful, missing}
use Rattle.classic_parts.specs.Fill.{fill_of}
use Rattle.classic_parts.specs.Writer.{wrote, filled}
use Rattle.ble_packet.specs.Header.{in_range}
use Rattle.ble_packet.specs.Control.{ack_size, ack_bytes}
use Rattle.ble_ack.specs.Acknowledgement.{ack_of}
use Rattle.ble_sender.specs.declared.writer.Sending.{Sending}
use Rattle.ble_sender.specs.Writer.{packet_of, found_at, lines, sent_of, piece_of, written_of}
use Rattle.ble_slot.specs.declared.Slot.{Slot}
use Rattle.ble_receiver.specs.Receiver.{acted, accept_of}
use Rattle.ble_receiver.specs.Receiver as receiver
use Rattle.msg_control.specs.declared.envelope.EnvelopePayload.{EnvelopePayload}
use Rattle.msg_device.specs.declared.features.DeviceFeatures.{DeviceFeatures}
use Rattle.proto_reader.specs.Gathered.{most_transports}
use Rattle.proto_writer.specs.Message.{writes_message}
use Rattle.msg_control.specs.Envelope.{bad_payload, envelope_of, envelope_fields, envelope_written}
use Rattle.msg_control.specs.Response.{bad_response_payload, response_fields, response_written}
use Rattle.proto_reader.specs.Refusal.{number_more}
use Rattle.proto_strings.specs.declared.TextFault.{TextFault}
use Rattle.std.specs.Prelude.{⊤, Result, Ok, Err}
use Rattle.proto_strings.specs.Texts.{first_fault, faulted, alone_written, writes_texts}
use Rattle.msg_device.specs.Information.{information_strings, information_fields, information_written}
use Rattle.msg_device.specs.Features.{features_fields, features_written}
use Rattle.proto_field.specs.Unsigned.{unsigned_of}
use Rattle.msg_firmware.specs.declared.apply.ApplyFirmware.{ApplyFirmware}
use Rattle.msg_firmware.specs.Segment.{broken_field}
use Rattle.msg_segment_writer.specs.Segment.{segment_strings, segment_fields, segment_filled, segment_written}
use Rattle.msg_apply_writer.specs.Information.{bad_firmware, firmware_strings}
use Rattle.msg_apply_writer.specs.Apply.{apply_fields, apply_written}
use Rattle.outbox.specs.Format.{Format, version_two, format_of, new_bytes, record_bytes, first_place}
use Rattle.outbox.specs.Reader.{Answer, other_version, read_all, walk_of, number_in}
use Rattle.outbox_move.specs.Moves.{over_from, moved_to, move_of}
use Rattle.c_outbox_move.specs.Calls.{moved_row, outbox_move_of}
use Rattle.c_text.specs.Calls.{text_of}
use Rattle.outbox.specs.Reader as outbox
use Rattle.outbox.specs.Writer.{Stored, stored, stored_at, new_of, bad_record, append_of, if_whole}
use Rattle.c_rows.specs.Row.{number_told, byte_or, out_of_range}
use Rattle.c_classic.specs.Convert.{is_extractor, extractor_of}
use Rattle.c_sending.specs.Convert.{stream_with, packet_row}
use Rattle.c_receiving.specs.Convert.{limit_of}
use Rattle.c_message_rows.specs.Convert.{all_signed, response_payload_of}
use Rattle.c_firmware_rows.specs.More.{is_wide}
use Rattle.c_firmware_rows.specs.Apply.{row_size, answer_size, bad_row, apply_at}
use Rattle.c_outbox.specs.Convert.{used_in, used_row}
use Rattle.c_rows.specs.Called.{if_fit}
use Rattle.c_classic.specs.Calls.{opened, stepped, fed_call, none_used, extractor_open_of, extractor_step_of, extractor_feed_of, frame_write_of, next_sequence_of}
use Rattle.c_classic_parts.specs.Convert.{is_state, state_of}
use Rattle.c_classic_parts.specs.Calls.{begun, parted, frame_begin_of, frame_part_of}
use Rattle.c_sending.specs.Calls.{packet_write_of, ack_write_of}
use Rattle.c_packets.specs.Calls.{packet_read_of, capture_packet_of}
use Rattle.c_receiving.specs.Calls.{replied, accepted, sizes_fit, receiver_open_of, receiver_accept_of}
use Rattle.c_receiving.specs.Calls as receiving
use Rattle.c_messages.specs.Calls.{envelope_read_of, envelope_write_of, response_read_of, response_write_of, information_read_of, information_write_of, features_read_of, features_write_of}
use Rattle.reply.specs.declared.Link.{Link}
use Rattle.reply_parts.specs.declared.body.Members.{Members}
use Rattle.reply.specs.Reply.{box_of, replied_of}
use Rattle.c_reply.specs.Convert.{transports_for, reply_row}
use Rattle.c_reply.specs.Calls.{reply_write_of}
use Rattle.c_firmware.specs.Calls.{segment_read_of, segment_stored, segment_write_of, apply_read_of, apply_stored, apply_write_of, field_read_of}
use Rattle.c_judge.specs.Calls.{capture_judge_of, capture_why_of}
use Rattle.c_outbox.specs.Calls.{outbox_new_of, outbox_append_of, outbox_record_of, outbox_whole_of}
use Rattle.c_claims.specs.OneLeavesAll.{Keeps, KeepsRow, OneLeavesAll}
use Rattle.c_claims.proofs.Rows.{keeps-if, keeps-answers, writes-keeps, keeps-writer, keeps-text, never}
use Rattle.c_claims.proofs.Extracting.{advance-not-one, feed-not-one}
use Rattle.c_claims.proofs.Accepting.{acted-keeps, answered-keeps}
use Rattle.c_claims.proofs.Reports.{report-keeps}
use Rattle.c_claims.proofs.Replies.{replied-left}

-- the extractor's opening is never 1; its step and feed are guarded, then never 1
open-keeps : (limit : ℕ) (state : List ℕ) → Keeps state [] [] (extractor_open_of limit state)
unfolding extractor_open_of open_of
open-keeps limit state = keeps-if (eqb (length state) 4) state [] [] _ (go (not (limit_fits limit)))
  where
    go : (t : Bool) → Keeps state [] [] (opened state (cond t (refused 17) (given (empty limit))))
    go true = λ e. absurd (omega (arith, e))
    go false = λ e. absurd (omega (arith, e))

step_keeps : (b : ℕ) (state lent answer : List ℕ) → Keeps state lent answer (extractor_step_of state lent b answer)
unfolding extractor_step_of
step_keeps b state lent answer =
    keeps-if (eqb (length answer) 3 && is_extractor state) state lent answer _ (go (not (ready limit s (length lent))))
  where
    limit : ℕ
    limit = (extractor_of state).limit

    s : Progress
    s = (extractor_of state).progress

    go : (t : Bool) → Keeps state lent answer (stepped state answer limit (cond t (step (extractor.refused 1) s lent) (advance_of limit s lent b)))
    go true = λ e. refl
    go false = λ e. absurd (advance-not-one limit s lent b e)

feed-keeps : (bytes state lent answer : List ℕ) → Keeps state lent (none_used answer) (extractor_feed_of state lent bytes answer)
unfolding extractor_feed_of none_used
feed-keeps bytes state lent answer =
    go (eqb (length answer) 4) (is_extractor state) (not (ready limit s (length lent)))
  where
    limit : ℕ
    limit = (extractor_of state).limit

    s : Progress
    s = (extractor_of state).progress

    told : Bool → List ℕ
    told long = cond long (replicate 4 0) answer

    go : (long fits t : Bool) → Keeps state lent (told long)
        (if_fit (long && fits) state lent (told long)
        (fed_call state limit (cond t (fed (extractor.refused 1) 0 s lent) (feed_from limit 0 s lent bytes))))
    go false fits t = λ e. refl
    go true false t = λ e. refl
    go true true true = λ e. refl
    go true true false = λ e. absurd (feed-not-one limit 0 s lent bytes e)

receiver-open-keeps : (limit : ℕ) (state : List ℕ) → Keeps state [] [] (receiver_open_of limit state)
unfolding receiver_open_of receiver.open_of
receiver-open-keeps limit state = keeps-if (eqb (length state) 1) state [] [] _ (go (not (limit_fits limit)))
  where
    go : (t : Bool) → Keeps state [] [] (receiving.opened state (cond t (refused 17) (given (receiver.link_of limit))))
    go true = λ e. absurd (omega (arith, e))
    go false = λ e. absurd (omega (arith, e))

accept-keeps : (sequence : ℕ) (slots : List Slot) (packet state lent out answer : List ℕ)
    → KeepsRow slots lent out answer (receiver_accept_of state slots lent packet sequence out answer)
unfolding receiver_accept_of accept_of
accept-keeps sequence slots packet state lent out answer = fits (sizes_fit state (length answer))
  where
    limit : ℕ
    limit = limit_of state

    c : receiver.PacketCall
    c = receiver.call packet (byte_or out_of_range sequence) out

    go : (t : Bool) → KeepsRow slots lent out answer
        (accepted answer
        (cond t (receiver.left (refused 1) slots lent out)
        (receiver.leaves c.sequence out (acted limit slots lent packet (receiver.read_in limit c)))))
    go true = λ e. refl
    go false = λ e.
        let r = acted-keeps limit slots lent packet (receiver.read_in limit c) e in
        rw (e, r.0, r.1, answered-keeps c.sequence out (acted limit slots lent packet (receiver.read_in limit c)).told e)

    fits : (fit : Bool) → KeepsRow slots lent out answer (cond fit (accepted answer (accept_of limit slots lent c)) (replied 1 slots lent answer out))
    fits true = go (not (receiver.ready limit slots (length lent)))
    fits false = λ e. refl

-- writers, each by its table
frame-keeps : (limit sequence : ℕ) (payload out answer : List ℕ) → Keeps [] out answer (frame_write_of limit sequence payload out answer)
unfolding frame_write_of
frame-keeps limit sequence payload out answer =
    let s = byte_or start_mark sequence in
    keeps-writer out answer (write_of limit s payload out)
    (writes-keeps (line 17 (not (limit_fits limit)) ∷ line 15 (is_mark s || ltb limit (length payload)) ∷ line 14 (ltb (length out) (length (frame_of s payload))) ∷ []) (length (frame_of s payload)) out (sets out 0 (frame_of s payload)))

begin-keeps : (limit sequence total : ℕ) (state : List ℕ) → Keeps state [] [] (frame_begin_of limit sequence total state)
unfolding frame_begin_of
begin-keeps limit sequence total state =
    keeps-if (eqb (length state) 7) state [] [] _ (go (not (limit_fits limit)) (bad_start limit (byte_or start_mark sequence) total))
  where
    go : (t u : Bool) → Keeps state [] [] (begun state (cond t (refused 17) (cond u (refused 15) (given (beginning limit (byte_or start_mark sequence) total)))))
    go true u = λ e. absurd (omega (arith, e))
    go false true = λ e. absurd (omega (arith, e))
    go false false = λ e. absurd (omega (arith, e))

part-keeps : (payload state out answer : List ℕ) → Keeps state out answer (frame_part_of state payload out answer)
unfolding frame_part_of
part-keeps payload state out answer =
    let limit = (state_of state).limit in
    let s = (state_of state).progress in
    keeps-if (eqb (length answer) 3 && is_state state) state out answer _
    (go (not (lawful limit s)) (ltb (missing s) (length payload)) (eqb (length out) 0))
  where
    go : (a b c : Bool) → (let s = (state_of state).progress in
        Keeps state out answer (parted state answer (state_of state).limit (cond a (wrote (refused 1) s out) (cond b (wrote (refused 26) s out) (cond c (wrote (refused 14) s out) (filled out (fill_of (length out) s payload)))))))
    go true b c = λ e. refl
    go false true c = λ e. absurd (omega (arith, e))
    go false false true = λ e. absurd (omega (arith, e))
    go false false false = λ e. absurd (omega (arith, e))

packet-keeps : (limit : ℕ) (how : Sending) (place : ℕ) (message out answer : List ℕ) → Keeps [] out answer (packet_write_of limit how message place out answer)
unfolding packet_write_of written_of
packet-keeps limit how place message out answer =
    let w = written_of limit how message place out in
    let found = found_at how (length message) place in
    keeps-answers 2 (number_told w.told) out answer w.out (packet_row (length message) w.told)
    (writes-keeps (lines limit how (length message) found (length out)) (sent_of how message (piece_of found)) out (sets out 0 (packet_of how message (piece_of found))))

ack-keeps : (stream id sequence positive : ℕ) (out answer : List ℕ) → Keeps [] out answer (ack_write_of stream id sequence positive out answer)
unfolding ack_write_of ack_of
ack-keeps stream id sequence positive out answer =
    let s = stream_with positive stream in
    let i = byte_or out_of_range id in
    let q = byte_or out_of_range sequence in
    keeps-writer out answer (ack_of s i q (eqb positive 1) out)
    (writes-keeps (line 15 (not (in_range s i q)) ∷ line 14 (ltb (length out) ack_size) ∷ []) ack_size out (sets out 0 (ack_bytes s i q (eqb positive 1))))

-- writers of messages
message-keeps : (bad : Bool) (fields : List Field) (out : List ℕ) → number_told (writes_message bad fields out).told ≡ 1 → (writes_message bad fields out).out ≡ out
message-keeps bad fields out =
    writes-keeps (line 15 bad ∷ line 14 (ltb (length out) (length (message_bytes fields))) ∷ []) (length (message_bytes fields)) out (sets out 0 (message_bytes fields))

envelope-keeps : (command : ℕ) (payload : EnvelopePayload) (bytes out answer : List ℕ) → Keeps [] out answer (envelope_write_of command payload bytes out answer)
unfolding envelope_write_of envelope_written
envelope-keeps command payload bytes out answer =
    keeps-writer out answer (envelope_written (signed_of command) payload bytes out)
    (message-keeps (bad_payload payload) (envelope_fields (extended (signed_of command)) payload bytes) out)

response-keeps : (code field : ℕ) (bytes out answer : List ℕ) → Keeps [] out answer (response_write_of code field bytes out answer)
unfolding response_write_of response_written
response-keeps code field bytes out answer =
    let payload = response_payload_of code field in
    keeps-writer out answer (response_written (signed_of code) payload bytes out)
    (message-keeps (bad_response_payload payload) (response_fields (extended (signed_of code)) payload bytes) out)

features-keeps : (features attributes : ℕ) (out answer : List ℕ) → Keeps [] out answer (features_write_of features attributes out answer)
unfolding features_write_of features_written
features-keeps features attributes out answer =
    let f : DeviceFeatures = record { features = features; device_attributes = attributes } in
    keeps-writer out answer (features_written f out) (message-keeps false (features_fields f) out)

-- .. and of messages with strings
texts-kept : (bad short : Bool) (fault : Result ⊤ TextFault) (n : ℕ) (out after : List ℕ)
    → let w : WrittenOf (ℕ × List ℕ) ℕ =
    cond bad (written (refused (15, [])) out)
    (faulted fault out (alone_written (cond bad (written (refused 15) out) (cond short (written (refused 14) out) (written (given n) after))))) in
    number_more w.told ≡ 1 → w.out ≡ out
texts-kept true short fault n out after = λ e. refl
texts-kept false short (Err why) n out after = λ e. refl
texts-kept false true (Ok u) n out after = λ e. refl
texts-kept false false (Ok u) n out after = never

texts-keep : (bad : Bool) (strings : List (ℕ × List ℕ)) (fields : List Field) (out : List ℕ)
    → number_more (writes_texts bad strings fields out).told ≡ 1 → (writes_texts bad strings fields out).out ≡ out
texts-keep bad strings fields out =
    let bytes = message_bytes fields in
    texts-kept bad (ltb (length out) (length bytes)) (first_fault strings) (length bytes) out (sets out 0 bytes)

transports-keep : (signed : Bool) (serial_number name : List ℕ) (transports : List ℤ) (device_type out : List ℕ)
    → let w = cond signed (information_written serial_number name transports device_type out) (written (refused (15, [])) out) in
    number_more w.told ≡ 1 → w.out ≡ out
unfolding information_written
transports-keep true serial_number name transports device_type out =
    texts-keep (ltb most_transports (length transports)) (information_strings serial_number name device_type) (information_fields serial_number name transports device_type) out
transports-keep false serial_number name transports device_type out = λ e. refl

information-keeps : (serial_number name device_type transports out answer : List ℕ)
    → Keeps [] out answer (information_write_of serial_number name device_type transports out answer)
unfolding information_write_of
information-keeps serial_number name device_type transports out answer =
    keeps-text out answer
    (cond (all_signed transports) (information_written serial_number name (map signed_of transports) device_type out) (written (refused (15, [])) out))
    (transports-keep (all_signed transports) serial_number name (map signed_of transports) device_type out)

-- the reply
reply-keeps : (message serial_number name device_type transports : List ℕ) (features : DeviceFeatures) (members : Members) (link : Link)
    (out answer : List ℕ) → Keeps [] out answer (reply_write_of message serial_number name device_type transports features members link out answer)
unfolding reply_write_of replied_of
reply-keeps message serial_number name device_type transports features members link out answer =
    let b = box_of serial_number name (transports_for transports) device_type features members in
    let w = replied_of b link message out in
    keeps-answers 3 (number_more w.told) out answer w.out (reply_row w.told) (replied-left b link out (envelope_of message))

-- writers of firmware messages
segment-kept : (wide fine short : Bool) (fault : Result ⊤ TextFault) (field size : ℕ) (out after : List ℕ)
    → let w : WrittenOf (ℕ × List ℕ) ℕ =
    cond wide (written (refused (15, [])) out)
    (faulted fault out (cond fine (cond short (written (refused (14, [])) out) (written (given size) after)) (written (refused (50, field ∷ [])) out))) in
    number_more w.told ≡ 1 → w.out ≡ out
segment-kept true fine short fault field size out after = λ e. refl
segment-kept false fine short (Err why) field size out after = λ e. refl
segment-kept false false short (Ok u) field size out after = λ e. refl
segment-kept false true true (Ok u) field size out after = λ e. refl
segment-kept false true false (Ok u) field size out after = never

segment-keeps : (offset size : ℕ) (name signature out answer : List ℕ)
    → Keeps [] out answer (segment_write_of name offset size signature out answer)
unfolding segment_write_of segment_stored segment_written segment_filled
segment-keeps offset size name signature out answer =
    let bytes = message_bytes (segment_fields name (unsigned_of offset) (unsigned_of size) signature) in
    let broken = broken_field (unsigned_of offset) signature in
    keeps-text out answer (segment_stored name offset size signature out)
    (segment-kept (is_wide offset || is_wide size) (eqb broken 0) (ltb (length out) (length bytes)) (first_fault (segment_strings name signature)) broken (length bytes) out (sets out 0 bytes))

apply-kept : (bad : Bool) (a : ApplyFirmware) (texts out : List ℕ)
    → let w = cond bad (written (refused (15, [])) out) (apply_written a texts out) in
    number_more w.told ≡ 1 → w.out ≡ out
unfolding apply_written
apply-kept true a texts out = λ e. refl
apply-kept false a texts out =
    texts-keep (bad_firmware texts a.firmware_information) (firmware_strings texts a.firmware_information) (apply_fields texts a) out

apply-keeps : (row texts out answer : List ℕ) → Keeps [] out answer (apply_write_of row texts out answer)
unfolding apply_write_of apply_stored
apply-keeps row texts out answer =
    keeps-if (eqb (length row) row_size) [] out answer _
    (keeps-text out answer (apply_stored row texts out) (apply-kept (bad_row row) (apply_at row) texts out))

-- the outbox: a refusal leaves the buffer
StoredKeeps : List ℕ → Stored → Type 0
StoredKeeps buffer s = number_in s.told ≡ 1 → s.buffer ≡ buffer

whole-keeps : (a : Answer (Unit {0})) (buffer bytes : List ℕ) (n : ℕ) → StoredKeeps buffer (if_whole a buffer (stored (outbox.given n) bytes))
unfolding StoredKeeps
whole-keeps (outbox.given whole) buffer bytes n = never
whole-keeps (outbox.refused k) buffer bytes n = λ e. refl
whole-keeps (outbox.refused_at k place) buffer bytes n = λ e. refl

new-keeps : (out answer : List ℕ) → Keeps [] out answer (outbox_new_of out answer)
unfolding outbox_new_of new_of StoredKeeps
new-keeps out answer =
    let s = new_of version_two out in
    keeps-answers 1 (number_in s.told) out answer s.buffer (used_in s.told ∷ [])
    (by-table (StoredKeeps out) (line 14 (ltb (length out) 1) ∷ []) (λ n. stored (outbox.refused n) out) (stored_at out 0 (new_bytes version_two)) (λ n e. refl) (λ h. never))

append-keeps : (used stream : ℕ) (payload buffer answer : List ℕ) → Keeps [] buffer answer (outbox_append_of buffer used stream payload answer)
unfolding outbox_append_of append_of StoredKeeps
append-keeps used stream payload buffer answer =
    let fmt = format_of (take used buffer) in
    let known = byte_or out_of_range stream in
    let s = append_of fmt buffer used known payload in
    let after = stored_at buffer used (record_bytes fmt known payload) in
    let walked = if_whole (walk_of fmt (take used buffer)) buffer after in
    let lines = line 15 (bad_record fmt known (length payload)) ∷ line 14 (ltb (length buffer - used) (length (record_bytes fmt known payload))) ∷ [] in
    keeps-answers 2 (number_in s.told) buffer answer s.buffer (used_row s.told)
    (by-table (StoredKeeps buffer) (line 1 (ltb (length buffer) used) ∷ []) (λ n. stored (outbox.refused n) buffer)
    (table (line 40 (other_version fmt (take used buffer)) ∷ []) (λ n. stored (outbox.refused_at n 0) buffer) (table lines (λ n. stored (outbox.refused n) buffer) walked)) (λ n e. refl)
    (λ h.
    by-table (StoredKeeps buffer) (line 40 (other_version fmt (take used buffer)) ∷ []) (λ n. stored (outbox.refused_at n 0) buffer)
    (table lines (λ n. stored (outbox.refused n) buffer) walked) (λ n e. refl)
    (λ h.
    by-table (StoredKeeps buffer) lines (λ n. stored (outbox.refused n) buffer) walked (λ n e. refl)
    (λ h. whole-keeps (walk_of fmt (take used buffer)) buffer after.buffer (used + length (record_bytes fmt known payload))))))

ifwhole-keeps : (a : Answer (Unit {0})) (out : List ℕ) (s : Stored) → StoredKeeps out s → StoredKeeps out (if_whole a out s)
unfolding StoredKeeps
ifwhole-keeps (outbox.given whole) out s k = k
ifwhole-keeps (outbox.refused n) out s k = λ e. refl
ifwhole-keeps (outbox.refused_at n place) out s k = λ e. refl

move-keeps : (wished : Format) (file out answer : List ℕ) → Keeps [] out answer (outbox_move_of wished file out answer)
unfolding outbox_move_of move_of StoredKeeps
move-keeps wished file out answer =
    let fmt = format_of file in
    let s = move_of wished file out in
    let bytes = moved_to wished fmt file in
    keeps-answers 2 (number_in s.told) out answer s.buffer (moved_row s.told)
    (ifwhole-keeps (walk_of fmt file) out _
    (ifwhole-keeps (over_from wished.limit first_place (read_all fmt file)) out _
    (by-table (StoredKeeps out) (line 14 (ltb (length out) (length bytes)) ∷ []) (λ n. stored (outbox.refused n) out) (stored_at out 0 bytes) (λ n e. refl) (λ h. never))))

pub one-leaves-all : OneLeavesAll
unfolding capture_why_of text_of next_sequence_of packet_read_of capture_packet_of capture_judge_of envelope_read_of response_read_of information_read_of features_read_of segment_read_of apply_read_of field_read_of outbox_record_of outbox_whole_of
one-leaves-all = record {
  extractor-open = open-keeps;
  extractor-step = step_keeps;
  extractor-feed = feed-keeps;
  frame-write = frame-keeps;
  frame-begin = begin-keeps;
  frame-part = part-keeps;
  next-sequence = λ sequence answer. keeps-if (eqb (length answer) 1) [] [] answer _ never;
  packet-write = packet-keeps;
  ack-write = ack-keeps;
  packet-read = λ limit bytes answer. keeps-answers 10 _ [] answer _ _ (λ e. refl);
  receiver-open = receiver-open-keeps;
  receiver-accept = accept-keeps;
  capture-packet = λ place capture answer. keeps-answers 5 _ [] answer _ _ (λ e. refl);
  capture-judge = λ room limit capture answer. keeps-answers 2 _ [] answer _ _ (λ e. refl);
  capture-why = λ room limit capture answer. keeps-answers 31 _ [] answer _ _ (λ e. refl);
  report-add = report-keeps;
  envelope-read = λ message answer. keeps-answers 6 _ [] answer _ _ (λ e. refl);
  envelope-write = envelope-keeps;
  response-read = λ message answer. keeps-answers 4 _ [] answer _ _ (λ e. refl);
  response-write = response-keeps;
  information-read = λ message answer. keeps-answers 17 _ [] answer _ _ (λ e. refl);
  information-write = information-keeps;
  features-read = λ message answer. keeps-answers 2 _ [] answer _ _ (λ e. refl);
  features-write = features-keeps;
  reply-write = reply-keeps;
  segment-read = λ message answer. keeps-answers 8 _ [] answer _ _ (λ e. refl);
  segment-write = segment-keeps;
  apply-read = λ message answer. keeps-answers answer_size _ [] answer _ _ (λ e. refl);
  apply-write = apply-keeps;
  field-read = λ place message answer. keeps-answers 7 _ [] answer _ _ (λ e. refl);
  outbox-new = new-keeps;
  outbox-append = append-keeps;
  outbox-record = λ place file answer. keeps-answers 6 _ [] answer _ _ (λ e. refl);
  outbox-whole = λ file answer. keeps-answers 1 _ [] answer _ _ (λ e. refl);
  outbox-move = move-keeps;
  text = λ text answer. keeps-answers 2 _ [] answer _ _ (λ e. refl);
}
