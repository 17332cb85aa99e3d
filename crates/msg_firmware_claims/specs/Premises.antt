-- The premises of the round trips from the other side: the facts of docs/FORMATS.md, in its own numbers, are enough for each of them. And each round trip once, by computation.
use Rattle.std.specs.Prelude.{ℕ, ◌+◌, ◌≤◌, ◌≡◌, true, List, [], ◌∷◌, length, replicate}
use Rattle.std.proofs.lemmas.List.Edits.{sets}
use Rattle.proto_field.specs.declared.value.Part.{Part}
use Rattle.proto_field.specs.Value.{bytes_of}
use Rattle.utf8.specs.WellFormed.{WellFormed}
use Rattle.proto_writer.specs.Writer.{message_bytes}
use Rattle.proto_reader.specs.Gathered.{no_part}
use Rattle.msg_firmware.specs.declared.component.FirmwareComponent.{FirmwareComponent}
use Rattle.msg_firmware.specs.declared.information.FirmwareInformation.{FirmwareInformation}
use Rattle.msg_firmware.specs.declared.apply.ApplyFirmware.{ApplyFirmware}
use Rattle.msg_segment_writer.specs.Segment.{segment_fields, segment_written}
use Rattle.msg_firmware.specs.Component.{no_component}
use Rattle.msg_apply_writer.specs.Information.{present}
use Rattle.msg_apply_writer.specs.Apply.{apply_fields, apply_written}
use Rattle.msg_claims.specs.RoundTrip.{ReadsBack}
use Rattle.msg_claims.specs.Premises.{Lendable}
use Rattle.msg_firmware_claims.specs.RoundTrip.{SegmentWritable, segment_again, ApplyWritable, apply_again}

-- from 0 to 4,294,967,295
abbrev pub InUnsigned32 : ℕ → Type 0
InUnsigned32 n = n ≤ 4294967295

-- 0 to 9, A to F, a to f
pub data Digit (b : ℕ) : Type 0 where
  decimal : 48 ≤ b → b ≤ 57 → Digit b
  upper : 65 ≤ b → b ≤ 70 → Digit b
  lower : 97 ≤ b → b ≤ 102 → Digit b

abbrev pub Digits : List ℕ → Type 0
Digits [] = Unit {0}
Digits (b ∷ l) = Digit b × Digits l

-- a segment with any name that is well formed, any size, and a signature of 64 hexadecimal digits
unfoldable pub SegmentsTaken : Type 0
SegmentsTaken =
    (name : List ℕ) (size : ℕ) (signature out : List ℕ) → WellFormed name → InUnsigned32 size → length signature ≡ 64 → Digits signature → Lendable out
    → length (message_bytes (segment_fields name 0 size signature)) ≤ length out → SegmentWritable name size signature out

-- a part that lies within the texts, and is well formed
abbrev pub Lies : List ℕ → Part → Type 0
Lies texts p = (p.start + p.len ≤ length texts) × WellFormed (bytes_of texts p)

abbrev pub ComponentsInRange : List ℕ → List FirmwareComponent → Type 0
ComponentsInRange texts [] = Unit {0}
ComponentsInRange texts (c ∷ cs) = (InUnsigned32 c.version × InUnsigned32 c.size × Lies texts c.name × Lies texts c.signature) × ComponentsInRange texts cs

-- ApplyFirmware with an array of eight components of which at most eight are there, whatever the others are
unfoldable pub AppliesTaken : Type 0
AppliesTaken =
    (a : ApplyFirmware) (texts out : List ℕ) → InUnsigned32 a.firmware_information.version → length a.firmware_information.components ≡ 8
    → a.firmware_information.count ≤ 8 → Lies texts a.firmware_information.name → Lies texts a.firmware_information.locale
    → Lies texts a.firmware_information.version_name → ComponentsInRange texts (present a.firmware_information) → Lendable out
    → length (message_bytes (apply_fields texts a)) ≤ length out → ApplyWritable a texts out

-- ---- by computation
-- an output that held something before
abbrev output : ℕ → List ℕ
output n = replicate n 170

-- 64 hexadecimal digits
abbrev hash : List ℕ
hash = 0x30 ∷ 0x39 ∷ 0x41 ∷ 0x46 ∷ 0x61 ∷ 0x66 ∷ replicate 58 0x37

abbrev part : ℕ → ℕ → Part
part start len = record { start = start; len = len }

-- a name and a locale of one byte each, a component with a name, and an empty one
abbrev some_firmware : FirmwareInformation
some_firmware =
    record {
      version = 0;
      name = part 0 1;
      components = sets (replicate 8 no_component) 0 (record { version = 5; name = part 1 1; size = 300; signature = no_part } ∷ []);
      count = 2;
      locale = part 2 1;
      version_name = no_part;
    }

abbrev some_apply : ApplyFirmware
some_apply = record { firmware_information = some_firmware; restart_required = true }

-- each into an output of exactly its size: `0A 01 58 18 Ac 02 22 40` and 64 digits, `0A 12 12 01 41 1A 08 08 05 12 01 42 18 Ac 02 1A 00 22 01 43 10 01`
pub record OneFirmwareOfEach : Type 0 where
  pub segment : ReadsBack (segment_written (88 ∷ []) 0 300 hash (output 72)) segment_again (88 ∷ [], 0, 300, hash)
  pub apply : ReadsBack (apply_written some_apply (65 ∷ 66 ∷ 67 ∷ []) (output 22)) apply_again
      (true, (0, 65 ∷ [], 2, (5, 66 ∷ [], 300, []) ∷ (0, [], 0, []) ∷ [], 67 ∷ [], []))
