-- Reading a firmware message that was written gives back every number and the bytes of every string, for all that a writer takes by docs/FORMATS.md, strings that are well formed among it, whatever the output held before. And a writer takes whatever a reader tells.
use Rattle.std.specs.Prelude.{ℕ, ◌≤◌, ◌<◌, ◌^◌, ◌≡◌, Bool, true, List, [], ◌∷◌, map, length}
use Rattle.wire.specs.Told.{ToldMore, given, refused, and_then, WrittenOf, written}
use Rattle.proto_field.specs.Value.{bytes_of}
use Rattle.proto_writer.specs.Writer.{message_bytes}
use Rattle.proto_reader.specs.Gathered.{most_repeated}
use Rattle.proto_reader.specs.Refusal.{Strings}
use Rattle.proto_strings.specs.Texts.{AllWellFormed}
use Rattle.msg_firmware.specs.declared.segment.UpdateComponentSegment.{UpdateComponentSegment}
use Rattle.msg_firmware.specs.declared.component.FirmwareComponent.{FirmwareComponent}
use Rattle.msg_firmware.specs.declared.information.FirmwareInformation.{FirmwareInformation}
use Rattle.msg_firmware.specs.declared.apply.ApplyFirmware.{ApplyFirmware}
use Rattle.msg_firmware.specs.Segment.{is_signature, segment_of}
use Rattle.msg_segment_writer.specs.Segment.{segment_strings, segment_fields, segment_written}
use Rattle.msg_firmware.specs.Component.{component_parts}
use Rattle.msg_apply_writer.specs.Information.{present}
use Rattle.msg_firmware.specs.Apply.{apply_of}
use Rattle.msg_apply_writer.specs.Apply.{apply_fields, apply_written}
use Rattle.msg_claims.specs.RoundTrip.{Lent, ReadsBack}

-- a refusal with its numbers
abbrev pub RefusalWithNumbers : Type 0
RefusalWithNumbers = ℕ × List ℕ

-- neither a writer that refuses with more than a number reads back, nor anything by a reader that does
unfoldable pub NoFirmwareRefused : Type 0
NoFirmwareRefused =
    ((n : RefusalWithNumbers) (out : List ℕ) (read : List ℕ → ToldMore (List ℕ)) (a : List ℕ) → ReadsBack (written (refused n) out) read a → ⊥)
    × ((w : WrittenOf RefusalWithNumbers ℕ) (n : RefusalWithNumbers) (a : List ℕ) → ReadsBack w (λ s. refused n) a → ⊥)

-- a number of 32 bits
abbrev pub Unsigned32 : ℕ → Type 0
Unsigned32 n = n < 2 ^ 32

-- ---- the segment: the name, the two numbers, the signature
abbrev pub segment_contents : List ℕ → UpdateComponentSegment → List ℕ × ℕ × ℕ × List ℕ
segment_contents s m = (bytes_of s m.component_name, m.component_offset, m.segment_size, bytes_of s m.segment_signature)

abbrev pub segment_again : List ℕ → ToldMore (List ℕ × ℕ × ℕ × List ℕ)
segment_again s = and_then (segment_of s) (λ m. given (segment_contents s m))

-- what a segment is written of, beside the offset 0
pub record SegmentWritable (name : List ℕ) (size : ℕ) (signature out : List ℕ) : Type 0 where
  pub number : Unsigned32 size
  pub digits : is_signature signature ≡ true
  pub strings : AllWellFormed (segment_strings name signature)
  pub lent : Lent out
  pub room : length (message_bytes (segment_fields name 0 size signature)) ≤ length out

unfoldable pub SegmentRoundTrip : Type 0
SegmentRoundTrip =
    (name : List ℕ) (size : ℕ) (signature out : List ℕ) → SegmentWritable name size signature out
    → ReadsBack (segment_written name 0 size signature out) segment_again (name, 0, size, signature)

-- a segment that was told of a message, written again into an output that has room for it
unfoldable pub SegmentsToldTaken : Type 0
SegmentsToldTaken =
    (s out : List ℕ) (m : UpdateComponentSegment) → segment_of s ≡ given m → Lent out
    → length (message_bytes (segment_fields (bytes_of s m.component_name) m.component_offset m.segment_size (bytes_of s m.segment_signature))) ≤ length out
    → ReadsBack (segment_written (bytes_of s m.component_name) m.component_offset m.segment_size (bytes_of s m.segment_signature) out) segment_again (segment_contents s m)

-- ---- ApplyFirmware: all numbers, the bool, the bytes of all strings, and the components in order
abbrev pub component_contents : List ℕ → FirmwareComponent → ℕ × List ℕ × ℕ × List ℕ
component_contents s c = (c.version, bytes_of s c.name, c.size, bytes_of s c.signature)

abbrev pub firmware_contents : List ℕ → FirmwareInformation → ℕ × List ℕ × ℕ × List (ℕ × List ℕ × ℕ × List ℕ) × List ℕ × List ℕ
firmware_contents s f =
    (f.version, bytes_of s f.name, f.count, map (component_contents s) (present f), bytes_of s f.locale, bytes_of s f.version_name)

abbrev pub apply_contents : List ℕ → ApplyFirmware → Bool × (ℕ × List ℕ × ℕ × List (ℕ × List ℕ × ℕ × List ℕ) × List ℕ × List ℕ)
apply_contents s a = (a.restart_required, firmware_contents s a.firmware_information)

abbrev pub apply_again : List ℕ → ToldMore (Bool × (ℕ × List ℕ × ℕ × List (ℕ × List ℕ × ℕ × List ℕ) × List ℕ × List ℕ))
apply_again s = and_then (apply_of s) (λ a. given (apply_contents s a))

-- components in range: the numbers, and the strings within the texts and well formed
abbrev pub ComponentWritable : List ℕ → FirmwareComponent → Type 0
ComponentWritable texts c = Unsigned32 c.version × Unsigned32 c.size × Strings texts (component_parts c)

abbrev pub ComponentsWritable : List ℕ → List FirmwareComponent → Type 0
ComponentsWritable texts [] = Unit {0}
ComponentsWritable texts (c ∷ cs) = ComponentWritable texts c × ComponentsWritable texts cs

-- what firmware information is written of
pub record FirmwareWritable (texts : List ℕ) (f : FirmwareInformation) : Type 0 where
  pub number : Unsigned32 f.version
  pub strings : Strings texts (f.name ∷ f.locale ∷ f.version_name ∷ [])
  pub most : f.count ≤ most_repeated
  pub there : f.count ≤ length f.components
  pub components : ComponentsWritable texts (present f)

-- what ApplyFirmware is written of
pub record ApplyWritable (a : ApplyFirmware) (texts out : List ℕ) : Type 0 where
  pub firmware : FirmwareWritable texts a.firmware_information
  pub lent : Lent out
  pub room : length (message_bytes (apply_fields texts a)) ≤ length out

unfoldable pub ApplyRoundTrip : Type 0
ApplyRoundTrip = (a : ApplyFirmware) (texts out : List ℕ) → ApplyWritable a texts out → ReadsBack (apply_written a texts out) apply_again (apply_contents texts a)

-- what was told of a message, written again with the message as the texts, into an output that has room for it
unfoldable pub AppliesToldTaken : Type 0
AppliesToldTaken =
    (s out : List ℕ) (a : ApplyFirmware) → apply_of s ≡ given a → Lent out → length (message_bytes (apply_fields s a)) ≤ length out
    → ReadsBack (apply_written a s out) apply_again (apply_contents s a)
