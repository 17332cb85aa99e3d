-- UpdateComponentSegment: two strings, two numbers of 32 bits, and the profile on top.
use Rattle.std.specs.Prelude.{ℕ, zero, suc, Bool, true, cond, ◌&&◌, ◌||◌, not, List, [], ◌∷◌, length, get_or, leb, eqb, Option, Some, None, Result}
use Rattle.wire.specs.Told.{ToldMore, told_by, given, refused, and_then}
use Rattle.proto_field.specs.declared.value.Part.{Part}
use Rattle.proto_field.specs.Unsigned.{unsigned_of}
use Rattle.proto_field.specs.Value.{bytes_of}
use Rattle.proto_reader.specs.declared.gathered.Gathered.{Gathered}
use Rattle.proto_schema.specs.declared.Schema.TheVariants as Schema
use Rattle.proto_schema.specs.Schema.{component_offset_field, segment_signature_field, first, second}
use Rattle.proto_reader.specs.Gathered.{no_part}
use Rattle.proto_reader.specs.Refusal.{why_of}
use Rattle.proto_reader.specs.Walk.{fields_from}
use Rattle.msg_firmware.specs.declared.segment.UpdateComponentSegment.{UpdateComponentSegment}
use Rattle.msg_firmware.specs.declared.segment.SegmentRefusal.{SegmentRefusal}
use Rattle.msg_firmware.specs.declared.segment.SegmentRefusal.TheVariants.{Message, Profile}

-- ---- the profile
-- a SHA-256 hash in base 16
abbrev pub signature_digits : ℕ
signature_digits = 64

-- 0 to 9, A to F, a to f
abbrev pub between : ℕ → ℕ → ℕ → Bool
between low high b = leb low b && leb b high

unfoldable pub is_digit : ℕ → Bool
is_digit b = between 48 57 b || (between 65 70 b || between 97 102 b)

abbrev pub all_digits : List ℕ → Bool
all_digits [] = true
all_digits (b ∷ l) = is_digit b && all_digits l

unfoldable pub is_signature : List ℕ → Bool
is_signature l = eqb (length l) signature_digits && all_digits l

-- the lowest field of which a rule is broken: component_offset is 0, segment_signature is 64 hexadecimal digits; 0 where none is
unfoldable pub broken_field : ℕ → List ℕ → ℕ
broken_field offset signature = cond (not (eqb offset 0)) component_offset_field (cond (not (is_signature signature)) segment_signature_field 0)

-- 50 with that field
abbrev pub profiled : {A : Type 0} → ℕ → (ℕ × List ℕ → A) → A → A
profiled broken refuse rest = cond (eqb broken 0) rest (refuse (50, broken ∷ []))

-- that field, where there is one
abbrev pub field_told : ℕ → Option ℕ
field_told zero = None
field_told (suc n) = Some (suc n)

-- ---- reading
-- what a refusal tells: the profile's 50 with the field of which a rule is broken
abbrev pub segment_why : SegmentRefusal → ℕ × List ℕ
segment_why (Message e) = why_of e
segment_why (Profile field) = (50, field ∷ [])

abbrev pub segment_number : SegmentRefusal → ℕ
segment_number e = (segment_why e).0

-- the segment that was gathered
abbrev pub segment_made : Gathered → UpdateComponentSegment
segment_made g =
    record {
      component_name = get_or g.texts first no_part;
      component_offset = unsigned_of (get_or g.scalars first 0);
      segment_size = unsigned_of (get_or g.scalars second 0);
      segment_signature = get_or g.texts second no_part;
    }

-- what the whole message told, by the profile
abbrev pub segment_judged : List ℕ → UpdateComponentSegment → ToldMore UpdateComponentSegment
segment_judged s m = profiled (broken_field m.component_offset (bytes_of s m.segment_signature)) refused (given m)

unfoldable pub segment_of : List ℕ → ToldMore UpdateComponentSegment
segment_of s = and_then (fields_from Schema.Segment s 0) (λ g. segment_judged s (segment_made g))

-- the answers of read_segment
abbrev pub told_segment : Result UpdateComponentSegment SegmentRefusal → ToldMore UpdateComponentSegment
told_segment = told_by segment_why

-- the parts that it tells
abbrev pub segment_parts : UpdateComponentSegment → List Part
segment_parts m = m.component_name ∷ m.segment_signature ∷ []
