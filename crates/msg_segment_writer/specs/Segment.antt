-- UpdateComponentSegment: two strings, two numbers of 32 bits, and the profile on top, written.
use Rattle.std.specs.Prelude.{ℕ, List, [], ◌∷◌, length, ltb, Result}
use Rattle.std.proofs.lemmas.List.Edits.{sets}
use Rattle.wire.specs.Told.{ToldMore, told_by, given, refused, line, table, WrittenOf, written}
use Rattle.proto_writer.specs.Writer.{Field, scalar, text, message_bytes}
use Rattle.proto_schema.specs.Schema.{component_name_field, component_offset_field, segment_size_field, segment_signature_field}
use Rattle.msg_segment_writer.specs.declared.SegmentWriteRefusal.{SegmentWriteRefusal}
use Rattle.msg_segment_writer.specs.declared.SegmentWriteRefusal.TheVariants as Why
use Rattle.proto_strings.specs.Texts.{why_of_fault, first_fault, faulted}
use Rattle.msg_firmware.specs.Segment.{broken_field, profiled}

-- ---- writing
abbrev pub segment_fields : List ℕ → ℕ → ℕ → List ℕ → List Field
segment_fields name offset size signature =
    text component_name_field name ∷ scalar component_offset_field offset ∷ scalar segment_size_field size ∷ text segment_signature_field signature ∷ []

-- its strings, in writing order
abbrev pub segment_strings : List ℕ → List ℕ → List (ℕ × List ℕ)
segment_strings name signature = (component_name_field, name) ∷ (segment_signature_field, signature) ∷ []

-- a segment written whatever its strings are: the profile, then the room
unfoldable pub segment_filled : List ℕ → ℕ → ℕ → List ℕ → List ℕ → WrittenOf (ℕ × List ℕ) ℕ
segment_filled name offset size signature out =
    let bytes = message_bytes (segment_fields name offset size signature) in
    profiled (broken_field offset signature) (λ n. written (refused n) out)
    (table (line 14 (ltb (length out) (length bytes)) ∷ []) (λ n. written (refused (n, [])) out) (written (given (length bytes)) (sets out 0 bytes)))

-- a segment written: its strings come first
unfoldable pub segment_written : List ℕ → ℕ → ℕ → List ℕ → List ℕ → WrittenOf (ℕ × List ℕ) ℕ
segment_written name offset size signature out = faulted (first_fault (segment_strings name signature)) out (segment_filled name offset size signature out)

-- the number of a refusal, and what goes with it
abbrev pub why_of : SegmentWriteRefusal → ℕ × List ℕ
why_of (Why.BadText fault) = why_of_fault fault
why_of (Why.Profile field) = (50, field ∷ [])
why_of Why.NoRoom = (14, [])

abbrev pub number_of : SegmentWriteRefusal → ℕ
number_of why = (why_of why).0

-- the answers of write_segment
abbrev pub told_segment_wrote : Result ℕ SegmentWriteRefusal → ToldMore ℕ
told_segment_wrote = told_by why_of
