-- What each writer tells of its size lies within the output.
use Prim.Native.Nat.{ℕ, ◌≤◌, zero-le}
use mathlib.Core.Path.{◌≡◌, refl, ap}
use mathlib.Core.Bool.{Bool, true, false, cond}
use mathlib.Core.List.{List, [], ◌∷◌}
use native.Mathlib.Omega.{arith}
use lib.ListN.{length}
use lib.Seq.{sets, length-sets}
use lib.Dec.{eqb, ltb}
use borrow.Author.Tests.{ltb-false}
use Rattle.wire.specs.Told.{WrittenOf, given, refused, written}
use Rattle.proto_writer.specs.Writer.{message_bytes}
use Rattle.proto_strings.specs.declared.TextFault.{TextFault}
use Rattle.std.specs.Prelude.{⊤, Result, Ok, Err}
use Rattle.proto_strings.specs.declared.TextWriteRefusal.{TextWriteRefusal}
use Rattle.proto_strings.specs.Texts.{first_fault, faulted, why_of_fault, told_text_wrote}
use Rattle.proto_writer.specs.Message.{wrote_size}
use Rattle.msg_firmware.specs.declared.apply.ApplyFirmware.{ApplyFirmware}
use Rattle.msg_firmware.specs.Segment.{broken_field}
use Rattle.msg_segment_writer.specs.declared.SegmentWriteRefusal.{SegmentWriteRefusal}
use Rattle.msg_segment_writer.specs.Segment.{segment_strings, segment_fields, segment_filled, segment_written, told_segment_wrote}
use Rattle.msg_apply_writer.specs.Information.{bad_firmware, firmware_strings}
use Rattle.msg_apply_writer.specs.Apply.{apply_fields, apply_written}
use Rattle.check_answering.proofs.Sizes.{text-size}

module _ (w : Result ℕ TextWriteRefusal) (out l : List ℕ) where
  pub apply-size : (a : ApplyFirmware) (texts : List ℕ) → written (told_text_wrote w) l ≡ apply_written a texts out → wrote_size w ≤ length l
  unfolding apply_written
  apply-size a texts e =
      text-size out l (apply_fields texts a) w (bad_firmware texts a.firmware_information) (firmware_strings texts a.firmware_information) e

-- the writer of a segment
module _ (out l name : List ℕ) (offset size : ℕ) (signature : List ℕ) where
  abbrev bytes : List ℕ
  bytes = message_bytes (segment_fields name offset size signature)

  done : (n : ℕ) (fault : Result ⊤ TextFault) (whole short : Bool) → ltb (length out) (length bytes) ≡ short
      → written {N = ℕ × List ℕ} (given n) l
      ≡ faulted fault out (cond whole (cond short (written (refused (14, [])) out) (written (given (length bytes)) (sets out 0 bytes))) (written (refused (50, broken_field offset signature ∷ [])) out))
      → n ≤ length l
  done n (Ok u) true false s e =
      let t : given n ≡ given (length bytes) = ap (λ (w : WrittenOf (ℕ × List ℕ) ℕ). w.told) e in
      let m : n ≡ length bytes = cc in
      let k : l ≡ sets out 0 bytes = ap (λ (w : WrittenOf (ℕ × List ℕ) ℕ). w.out) e in
      omega (arith, ap length k, length-sets out 0 bytes, ltb-false (length out) (length bytes) s)
  done n (Ok u) true true s e =
      absurd (let t : given n ≡ refused (14, []) = ap (λ (w : WrittenOf (ℕ × List ℕ) ℕ). w.told) e in let z : ◌≡◌ {A = ℕ} 0 1 = cc in omega arith)
  done n (Err fault) whole short s e =
      absurd (let t : given n ≡ refused (why_of_fault fault) = ap (λ (w : WrittenOf (ℕ × List ℕ) ℕ). w.told) e in let z : ◌≡◌ {A = ℕ} 0 1 = cc in omega arith)
  done n (Ok u) false short s e =
      absurd (let t : given n ≡ refused (50, broken_field offset signature ∷ []) = ap (λ (w : WrittenOf (ℕ × List ℕ) ℕ). w.told) e in let z : ◌≡◌ {A = ℕ} 0 1 = cc in omega arith)

  pub segment-size : (w : Result ℕ SegmentWriteRefusal) → written (told_segment_wrote w) l ≡ segment_written name offset size signature out → wrote_size w ≤ length l
  unfolding segment_written segment_filled
  segment-size (Ok n) e = done n (first_fault (segment_strings name signature)) (eqb (broken_field offset signature) 0) (ltb (length out) (length bytes)) refl e
  segment-size (Err why) e = zero-le
