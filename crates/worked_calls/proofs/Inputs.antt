-- The input of the program lawful: by computation, and the two longest by the length alone.
use Prim.Native.Nat.{ℕ, suc, ◌+◌}
use mathlib.Core.Path.{◌≡◌, refl, sym, subst}
use mathlib.Core.Bool.{true, false}
use mathlib.Core.List.{List, ◌∷◌}
use lib.Dec.{ltb}
use lib.ListN.{length, replicate, length-replicate}
use Rattle.wire.specs.Told.{refused}
use Rattle.capture_reader.specs.Capture.{front_of, other_version, packets_from, packets_of}
use Rattle.capture_judge.specs.Capture.{traced_of, verdict_from, walked_of}
use Rattle.capture_judge.specs.Input.{settings, largest_capture, input_of, input_traced}
use Rattle.capture_judge.specs.Step.{step_of}
use Rattle.ble_packet.specs.Reader.{content_of, fields_of, lines, read_of}
use Rattle.ble_sender.specs.Piece.{size_for}
use Rattle.ble_sender.specs.Writer.{room_fits}
use Rattle.capture_stream.specs.Slot.{first_step, fits_piece, next_fits, next_step}
use Rattle.wire.specs.Limit.{limit_fits}
use Rattle.wire.specs.Stream.{is_stream, stream_of}
use Rattle.worked_calls.specs.Inputs.{InputAnswers, inputs_rows}

too_long : (bytes : List ℕ) → ltb (settings + largest_capture) (length bytes) ≡ true → input_of bytes ≡ refused (1, 0)
unfolding input_of input_traced
too_long bytes h = rw h

not-too-long : (bytes : List ℕ) → ltb (settings + largest_capture) (length (0x00 ∷ 0x00 ∷ bytes)) ≡ false → input_of (0x00 ∷ 0x00 ∷ bytes) ≡ refused (13, 0)
unfolding input_of input_traced traced_of room_fits
not-too-long bytes h = rw h

longer : (n : ℕ) → ltb (settings + largest_capture) n ≡ true → input_of (replicate n 0x00) ≡ refused (1, 0)
longer n h = too_long (replicate n 0x00) (rw (length-replicate {A = ℕ} n 0x00, h))

fitting : (n : ℕ) → ltb (settings + largest_capture) (suc (suc n)) ≡ false → input_of (0x00 ∷ 0x00 ∷ replicate n 0x00) ≡ refused (13, 0)
fitting n h = not-too-long (replicate n 0x00) (subst (λ x. ltb (settings + largest_capture) (suc (suc x)) ≡ false) (sym (length-replicate {A = ℕ} n 0x00)) h)

pub input-answers : InputAnswers
unfolding InputAnswers inputs_rows front_of other_version packets_from packets_of traced_of verdict_from walked_of input_of input_traced step_of content_of fields_of lines read_of size_for room_fits first_step fits_piece next_fits next_step limit_fits is_stream stream_of
input-answers = (refl, longer 65541 refl, fitting 65538 refl)
