-- An instance of each field of SizesSuffice but apply-write: the ends of its ranges, and just the output that the header names. The append also by computation.
use Prim.Native.Nat.{ℕ, zero, suc, ◌≤◌, zero-le}
use mathlib.Core.Path.{◌≡◌, refl}
use mathlib.Core.Logic.{inl, inr}
use mathlib.Core.List.{List, [], ◌∷◌, ◌++◌, map}
use native.Mathlib.Omega.{arith}
use lib.IntN.{ℤ, pos, negsuc}
use lib.ListN.{length, take, get_or, replicate, length-append, length-replicate}
use Rattle.proto_field.specs.Signed.{extended}
use borrow.Author.Tests.{le-leb}
use Rattle.proto_field.specs.Tag.{tag_at, bad_tag}
use Rattle.proto_field.specs.Value.{value_at}
use Rattle.proto_field.specs.Varint.{varint_at}
use Rattle.proto_writer.specs.Varint.{varint_bytes}
use Rattle.proto_writer.specs.Writer.{tag_bytes, head_bytes, part_bytes, field_bytes}
use Rattle.proto_schema.specs.Schema.{role_of}
use Rattle.proto_reader.specs.Walk.{fields_from, field_at, read_at, added_at, judged}
use Rattle.msg_control.specs.declared.envelope.Payload.TheVariants as Payload
use Rattle.msg_control.specs.Envelope.{payload_of, envelope_of}
use Rattle.msg_device.specs.declared.features.DeviceFeatures.{DeviceFeatures}
use Rattle.reply_parts.specs.declared.body.Members.{Members}
use Rattle.reply_parts.specs.Body.{kind_of_command}
use Rattle.reply.specs.Reply.{box_of, reply_by, reply_of}
use Rattle.utf8.specs.Table.{rows, within, described}
use Rattle.utf8.specs.WellFormed.{WellFormed, empty, more}
use Rattle.wire.specs.Stream.{is_stream}
use Rattle.ble_sender.specs.Piece.{size_for}
use Rattle.outbox.specs.Format.{version_one, version_two, one, two, is_one, format_of, number_of, bytes_of, record_bytes}
use Rattle.outbox.specs.Reader.{given, other_version, bad_place, bad_length, cut_short, bad_stream, record_at, read_of, readings, read_all, walk_of}
use Rattle.outbox.specs.Writer.{bad_record, append_of}
use Rattle.outbox.proofs.Walk.{whole-version}
use Rattle.outbox_claims.proofs.Run.{all-run}
use Rattle.outbox_move_claims.specs.Claims.{AllShort, records_of}
use Rattle.outbox_move_claims.proofs.Rebuilt as rebuilt
use Rattle.msg_claims.specs.Premises.{AllInSigned32}
use Rattle.msg_firmware_claims.specs.Premises.{Digits, lower}
use Rattle.c_rows.specs.Row.{byte_or}
use Rattle.c_rows.specs.Called.{called}
use Rattle.c_classic.specs.Calls.{frame_write_of}
use Rattle.c_sending.specs.Convert.{sending_of}
use Rattle.c_sending.specs.Calls.{packet_write_of, ack_write_of}
use Rattle.c_message_rows.specs.Convert.{payload_for, all_signed, is_signed}
use Rattle.c_messages.specs.Calls.{envelope_write_of, response_write_of, information_write_of, features_write_of}
use Rattle.c_reply.specs.Convert.{link_of, few_signed, transports_for}
use Rattle.c_reply.specs.Calls.{reply_write_of}
use Rattle.c_firmware.specs.Calls.{segment_write_of, apply_read_of, apply_write_of}
use Rattle.c_outbox.specs.Calls.{outbox_new_of, outbox_append_of}
use Rattle.c_outbox_move.specs.Calls.{outbox_move_of}
use Rattle.c_claims.specs.SizesSuffice.{apply_size, strings_of, Done}
use Rattle.c_claims.proofs.SizesSuffice.{sizes-suffice}

abbrev bytes : ℕ → List ℕ
bytes n = replicate n 9

frame : Done (frame_write_of 1 255 (240 ∷ []) (bytes 11) (7 ∷ []))
frame =
    sizes-suffice.frame-write 1 255 (240 ∷ []) (bytes 11) (7 ∷ []) refl (omega arith) (omega arith) (omega arith) ((λ e. omega (arith, e)), (λ e. omega (arith, e)), (λ e. omega (arith, e))) (omega arith) (omega arith)

after-marks : Done (frame_write_of 1 243 [] (bytes 9) (7 ∷ []))
after-marks =
    sizes-suffice.frame-write 1 243 [] (bytes 9) (7 ∷ []) refl (omega arith) (omega arith) (omega arith) ((λ e. omega (arith, e)), (λ e. omega (arith, e)), (λ e. omega (arith, e))) (omega arith) (omega arith)

packet : Done (packet_write_of 15 (sending_of 20 6 15 15 1) (bytes 15) 0 (bytes 20) (7 ∷ 7 ∷ []))
packet =
    sizes-suffice.packet-first 15 20 6 15 15 1 (bytes 15) (bytes 20) (7 ∷ 7 ∷ []) refl
    (omega arith) (omega arith) (omega arith) (omega arith) (inr (inr refl)) (omega arith) (omega arith) (omega arith) (omega arith) (omega arith)

later : Done (packet_write_of 15 (sending_of 20 0 0 0 0) (bytes 15) 14 (bytes 20) (7 ∷ 7 ∷ []))
unfolding sending_of size_for
later =
    sizes-suffice.packet-write 15 20 0 0 0 0 14 (bytes 15) (bytes 20) (7 ∷ 7 ∷ []) refl
    (omega arith) (omega arith) (omega arith) (omega arith) (inl refl) (omega arith) (omega arith) (omega arith) (omega arith) refl (omega arith)

widest : Done (packet_write_of 65535 (sending_of 512 0 0 0 0) [] 0 (bytes 512) (7 ∷ 7 ∷ []))
widest =
    sizes-suffice.packet-first 65535 512 0 0 0 0 [] (bytes 512) (7 ∷ 7 ∷ []) refl
    (omega arith) (omega arith) (omega arith) (omega arith) (inl refl) (omega arith) (omega arith) (omega arith) (omega arith) (omega arith)

ack : Done (ack_write_of 2 15 15 1 (bytes 6) (7 ∷ []))
ack = sizes-suffice.ack-write 2 15 15 1 (bytes 6) (7 ∷ []) refl (inr (inl refl)) (omega arith) (omega arith) (omega arith) (omega arith)

none : Done (envelope_write_of (extended (pos 2147483647)) (payload_for (extended (pos 2147483647)) 0 5 1) [] (bytes 53) (7 ∷ []))
none = sizes-suffice.envelope-none (pos 2147483647) 5 1 [] (bytes 53) (7 ∷ []) refl (omega arith) (omega arith)

response : Done (envelope_write_of (extended (negsuc 2147483647)) (payload_for (extended (negsuc 2147483647)) 1 (extended (negsuc 2147483647)) 9) (65 ∷ []) (bytes 54) (7 ∷ []))
response =
    sizes-suffice.envelope-response (negsuc 2147483647) (negsuc 2147483647) 9 (65 ∷ []) (bytes 54) (7 ∷ []) refl (omega arith) (omega arith) (inr (omega arith, omega arith)) (omega arith)

member : Done (envelope_write_of (extended (pos 0)) (payload_for (extended (pos 0)) 2 5 536870911) (65 ∷ []) (bytes 54) (7 ∷ []))
member =
    sizes-suffice.envelope-member (pos 0) 5 536870911 (65 ∷ []) (bytes 54) (7 ∷ []) refl (omega arith) (omega arith, omega arith) (λ e. omega (arith, e)) (omega arith)

alone : Done (response_write_of (extended (negsuc 2147483647)) 2 (65 ∷ []) (bytes 32) (7 ∷ []))
alone = sizes-suffice.response-write (negsuc 2147483647) 2 (65 ∷ []) (bytes 32) (7 ∷ []) refl (omega arith) (inr (omega arith, omega arith)) (omega arith)

-- one ASCII byte is a string that is well formed
letter : (b : ℕ) → b ≤ 127 → WellFormed (b ∷ [])
unfolding described rows within
letter b h = more (b ∷ []) [] refl (rw (le-leb 0 b zero-le, le-leb b 127 h)) empty

abbrev transports : List ℤ
transports = replicate 8 (negsuc 2147483647)

all-least : AllInSigned32 transports
all-least = (omega arith, (omega arith, (omega arith, (omega arith, (omega arith, (omega arith, (omega arith, (omega arith, tt))))))))

information : Done (information_write_of (65 ∷ []) (66 ∷ []) (67 ∷ []) (map extended transports) (bytes 127) (7 ∷ 7 ∷ 7 ∷ []))
information =
    sizes-suffice.information-write (65 ∷ []) (66 ∷ []) (67 ∷ []) transports (bytes 127) (7 ∷ 7 ∷ 7 ∷ []) refl
    all-least (omega arith) (letter 65 (omega arith)) (letter 66 (omega arith)) (letter 67 (omega arith)) (omega arith)

features : Done (features_write_of 18446744073709551615 18446744073709551615 (bytes 22) (7 ∷ []))
features = sizes-suffice.features-write 18446744073709551615 18446744073709551615 (bytes 22) (7 ∷ []) refl (omega arith)

digits : (n : ℕ) → Digits (replicate n 102)
digits zero = tt
digits (suc n) = (lower (omega arith) (omega arith), digits n)

segment : Done (segment_write_of (65 ∷ []) 0 4294967295 (replicate 64 102) (bytes 98) (7 ∷ 7 ∷ 7 ∷ []))
segment = sizes-suffice.segment-write (65 ∷ []) 4294967295 (replicate 64 102) (bytes 98) (7 ∷ 7 ∷ 7 ∷ []) refl (letter 65 (omega arith)) (omega arith) refl (digits 64) (omega arith)

new : Done (outbox_new_of (bytes 1) (7 ∷ []))
new = sizes-suffice.outbox-new (bytes 1) (7 ∷ []) refl (omega arith)

-- a reply at the largest room and limit
abbrev members : Members
members = record { information = 536870911; features = 2 }

abbrev most : DeviceFeatures
most = record { features = 18446744073709551615; device_attributes = 18446744073709551615 }

reply-widest : Done (reply_write_of (8 ∷ 94 ∷ []) [] [] [] [] most members (link_of 512 65535 0 0) (bytes 360) (7 ∷ 7 ∷ 7 ∷ []))
unfolding reply_by kind_of_command few_signed all_signed varint_at varint_bytes bad_tag tag_at value_at tag_bytes head_bytes part_bytes field_bytes role_of judged added_at read_at field_at fields_from payload_of envelope_of
reply-widest =
    sizes-suffice.reply-write (8 ∷ 94 ∷ []) [] [] [] [] most members 512 65535 0 0 (record { command = pos 94; payload = Payload.None }) (bytes 360) (7 ∷ 7 ∷ 7 ∷ []) refl refl
    (omega arith) (omega arith) (omega arith) (omega arith) (omega arith) (omega arith) (omega arith, omega arith) (omega arith, omega arith)
    tt (omega arith) empty empty empty (omega arith) (omega arith)

-- .. and at the least room, with the last id and sequence, where the limit is the reply's own length: eight transports of ten bytes each, and strings
reply-length : length (reply_of (box_of (65 ∷ []) (66 ∷ []) (transports_for (map extended transports)) (67 ∷ []) most members) (extended (pos 20))) ≡ 101
unfolding reply_by kind_of_command few_signed all_signed is_signed varint_bytes tag_bytes head_bytes part_bytes field_bytes
reply-length = refl

reply-fits : Done (reply_write_of (8 ∷ 20 ∷ []) (65 ∷ []) (66 ∷ []) (67 ∷ []) (map extended transports) most members (link_of 20 101 15 15) (bytes 366) (7 ∷ 7 ∷ 7 ∷ []))
unfolding varint_at bad_tag tag_at value_at role_of judged added_at read_at field_at fields_from payload_of envelope_of
reply-fits =
    sizes-suffice.reply-write (8 ∷ 20 ∷ []) (65 ∷ []) (66 ∷ []) (67 ∷ []) transports most members 20 101 15 15 (record { command = pos 20; payload = Payload.None }) (bytes 366) (7 ∷ 7 ∷ 7 ∷ []) refl refl
    (omega arith) (omega arith) (omega arith) (omega arith) (omega arith) (omega arith) (omega arith, omega arith) (omega arith, omega arith)
    all-least (omega arith) (letter 65 (omega arith)) (letter 66 (omega arith)) (letter 67 (omega arith)) (omega (arith, reply-length)) (omega arith)

told-again : (message told : List ℕ) → let c = apply_read_of message told in let row = take 57 c.answer in
    c.number ≡ 0 → Done (apply_write_of row message (bytes (apply_size (get_or row 8 0) (strings_of row))) (7 ∷ 7 ∷ 7 ∷ []))
told-again message told e =
    let row = take 57 (apply_read_of message told).answer in
    let size = apply_size (get_or row 8 0) (strings_of row) in
    sizes-suffice.apply-told message told (bytes size) (7 ∷ 7 ∷ 7 ∷ []) e refl (omega (arith, length-replicate {0} {A = ℕ} size 9))

append : Done (outbox_append_of (1 ∷ 9 ∷ 9 ∷ 9 ∷ 9 ∷ []) 1 6 (65 ∷ []) (7 ∷ 7 ∷ []))
append = sizes-suffice.outbox-append-first version_one one 6 (9 ∷ 9 ∷ 9 ∷ 9 ∷ []) (65 ∷ []) (7 ∷ 7 ∷ []) refl (inr (inr refl)) (omega arith) (omega arith)

append-two : Done (outbox_append_of (2 ∷ bytes 6) 1 6 (65 ∷ []) (7 ∷ 7 ∷ []))
append-two = sizes-suffice.outbox-append-first version_two two 6 (bytes 6) (65 ∷ []) (7 ∷ 7 ∷ []) refl (inr (inr refl)) (omega arith) (omega arith)

behind : Done (outbox_append_of (1 ∷ 0 ∷ 2 ∷ 6 ∷ 65 ∷ 9 ∷ 9 ∷ 9 ∷ []) 5 2 [] (7 ∷ 7 ∷ []))
unfolding is_stream is_one format_of walk_of read_all readings read_of other_version bad_place record_at bad_length cut_short bad_stream number_of
behind =
    sizes-suffice.outbox-append 5 2 (1 ∷ 0 ∷ 2 ∷ 6 ∷ 65 ∷ 9 ∷ 9 ∷ 9 ∷ []) [] (7 ∷ 7 ∷ []) refl refl (inr (inl refl)) (omega arith) (omega arith)

appended : outbox_append_of (1 ∷ 9 ∷ 9 ∷ 9 ∷ 9 ∷ []) 1 6 (65 ∷ []) (7 ∷ 7 ∷ []) ≡ called 0 [] (1 ∷ 0 ∷ 2 ∷ 6 ∷ 65 ∷ []) (5 ∷ 0 ∷ [])
unfolding outbox_append_of append_of bad_record is_stream is_one format_of walk_of read_all readings read_of other_version bad_place bytes_of record_bytes byte_or
appended = refl

-- every whole file
module _ (file : List ℕ) (whole : walk_of (format_of file) file ≡ given tt) where
  to-two : Done (outbox_move_of version_two file (file ++ file) (7 ∷ 7 ∷ []))
  to-two = sizes-suffice.outbox-to-two file (file ++ file) (7 ∷ 7 ∷ []) refl whole (omega (arith, length-append file file))

  to_one : AllShort 4096 (records_of file) → Done (outbox_move_of version_one file file (7 ∷ 7 ∷ []))
  to_one short =
      let run = all-run (format_of file) file (whole-version (format_of file) file whole) in
      sizes-suffice.outbox-to-one file file (7 ∷ 7 ∷ []) refl whole (rebuilt.within 4096 (format_of file) file run short) (omega arith)

  copy : Done (outbox_move_of (format_of file) file file (7 ∷ 7 ∷ []))
  copy = sizes-suffice.outbox-copy file file (7 ∷ 7 ∷ []) refl whole (omega arith)
