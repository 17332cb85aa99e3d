-- The worked inputs, by computation; one of them by its transactions too.
use Prim.Native.Nat.{ℕ, ◌≤◌}
use native.Mathlib.Omega.{arith}
use mathlib.Core.Path.{◌≡◌, refl}
use mathlib.Core.Bool.{Bool, true, false, ◌&&◌}
use mathlib.Core.List.{List, [], ◌∷◌}
use lib.ListN.{length, replicate}
use lib.Dec.{ltb}
use borrow.Author.Tests.{ltb-true}
use Rattle.wire.specs.Bytes.{AllBytes}
use Rattle.wire.specs.Limit.{limit_fits}
use Rattle.wire.specs.Stream.{stream_number, is_stream, stream_of}
use Rattle.wire.proofs.Tests.{and_left, and_right}
use Rattle.wire.specs.Those.{those}
use Rattle.wire.specs.Told.{given}
use Rattle.wire.specs.declared.stream.Stream.{Stream}
use Rattle.wire.specs.declared.stream.Stream.TheVariants.{Control, Ota, Alexa}
use Rattle.ble_packet.specs.Header.{in_range}
use Rattle.ble_packet.specs.Reader.{fields_of, content_of, lines, read_of}
use Rattle.capture_reader.specs.Capture.{front_of, packets_from, other_version, packets_of}
use Rattle.capture_reader.specs.Captured.{captured}
use Rattle.ble_sender.specs.Piece.{size_for}
use Rattle.ble_sender.specs.Writer.{header_bytes, packet_of, room_fits, arguments_fit, written_of}
use Rattle.ble_sender_claims.specs.Calls.{calls_from}
use Rattle.capture_stream.specs.Slot.{fits_piece, first_step, next_fits, next_step}
use Rattle.capture_judge.specs.Step.{step_of}
use Rattle.capture_judge.specs.Capture.{verdict_from, walked_of, traced_of, lawful, judged_of}
use Rattle.capture_judge.specs.Input.{input_traced, input_of}
use Rattle.capture_judge_claims.specs.Lawful.{Writable, AllWritable, packets_in, carries, AllKnown, LawfulPackets}
use Rattle.capture_judge_claims.specs.Right.{CaptureIsRight}
use Rattle.capture_judge_claims.specs.Example.{from, RowsHold, mixed, sent, JudgedByHand}
use Rattle.capture_judge_claims.proofs.Captures.{writable-all}

pub rows-hold : RowsHold
unfolding is_stream stream_of limit_fits fields_of content_of lines read_of front_of packets_from other_version packets_of size_for room_fits fits_piece first_step next_fits next_step step_of verdict_from walked_of traced_of judged_of input_traced input_of
rows-hold = refl

-- whether every number is a byte
abbrev are_bytes : List ℕ → Bool
are_bytes [] = true
are_bytes (x ∷ xs) = ltb x 256 && are_bytes xs

are-bytes : (l : List ℕ) → are_bytes l ≡ true → AllBytes l
are-bytes [] e = tt
are-bytes (x ∷ xs) e = (ltb-true x 256 (and_left (ltb x 256) _ e), are-bytes xs (and_right (ltb x 256) _ e))

sends : (s : Stream) (ack : Bool) (payload : List ℕ) → length payload ≤ 35 → are_bytes payload ≡ true
    → Writable 20 35 s
    (record { how = record { room = 20; stream = stream_number s; id = 1; sequence = 0; ack = ack }; payload = payload; out = replicate 20 0 })
sends s ack payload l b =
    writable-all 20 35 s 1 0 ack payload (replicate 20 0) (omega arith) (omega arith) (omega arith) (omega arith) (omega arith) (omega arith) l
    (are-bytes payload b) (omega arith)

writable : (s : Stream) → AllWritable 20 35 s (sent s)
writable Control = (sends Control false (0x08 ∷ 0x5E ∷ []) (omega arith) refl, tt)
writable Ota = tt
writable Alexa = (sends Alexa true (from 1 35) (omega arith) refl, tt)

same-packets : (s : Stream) → those (carries 35 s) mixed ≡ packets_in 35 (sent s)
unfolding is_stream stream_of limit_fits in_range fields_of content_of lines read_of size_for header_bytes packet_of room_fits arguments_fit written_of calls_from
same-packets Control = refl
same-packets Ota = refl
same-packets Alexa = refl

all_known : AllKnown 35 mixed
unfolding is_stream stream_of fields_of content_of lines read_of
all_known = (refl, (refl, (refl, (refl, (refl, (refl, tt))))))

had : packets_of (captured mixed) ≡ given mixed
unfolding front_of packets_from other_version packets_of
had = refl

computed : judged_of 20 35 (captured mixed) ≡ given lawful
unfolding is_stream stream_of limit_fits fields_of content_of lines read_of front_of packets_from other_version packets_of size_for room_fits fits_piece first_step next_fits next_step step_of verdict_from walked_of traced_of judged_of
computed = refl

by_hand : LawfulPackets 20 35 mixed
by_hand = record { sent = sent; writable = writable; packets-are = same-packets; all_known = all_known }

claimed : CaptureIsRight → judged_of 20 35 (captured mixed) ≡ given lawful
unfolding room_fits limit_fits
claimed right = (right 20 35 (captured mixed) mixed refl refl (are-bytes (captured mixed) refl) had).0.1 by_hand

pub judged-by-hand : JudgedByHand
unfolding by_hand
judged-by-hand = record { by_hand = by_hand; is-sent = λ s. refl; had = had; computed = computed; claimed = claimed }
