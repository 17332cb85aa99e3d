-- The premises of the round trips from the other side: the facts of docs/FORMATS.md, in its own numbers, are enough for each of them. And each round trip once, by computation.
use Rattle.std.specs.Prelude.{ℕ, ◌≤◌, ◌≡◌, List, [], ◌∷◌, ℤ, pos, negsuc, length, replicate}
use Rattle.proto_field.specs.Signed.{extended}
use Rattle.proto_writer.specs.Writer.{message_bytes}
use Rattle.std.specs.Prelude.{Some, None}
use Rattle.msg_control.specs.declared.envelope.EnvelopePayload.TheVariants as Sent
use Rattle.utf8.specs.WellFormed.{WellFormed}
use Rattle.msg_device.specs.declared.features.DeviceFeatures.{DeviceFeatures}
use Rattle.msg_control.specs.Response.{response_fields, response_written}
use Rattle.msg_control.specs.Envelope.{envelope_fields, envelope_written}
use Rattle.msg_device.specs.Information.{information_fields, information_written}
use Rattle.msg_device.specs.Features.{features_fields, features_written, features_of}
use Rattle.msg_claims.specs.RoundTrip.{ReadsBack, ResponseWritable, response_again, EnvelopeWritable, envelope_again, InformationWritable, information_again, FeaturesWritable}

-- from -2,147,483,648 to 2,147,483,647: negsuc n is -n - 1
abbrev pub InSigned32 : ℤ → Type 0
InSigned32 (pos n) = n ≤ 2147483647
InSigned32 (negsuc n) = n ≤ 2147483647

abbrev pub AllInSigned32 : List ℤ → Type 0
AllInSigned32 [] = Unit {0}
AllInSigned32 (z ∷ zs) = InSigned32 z × AllInSigned32 zs

-- what a 64-bit machine can lend
abbrev pub Lendable : List ℕ → Type 0
Lendable out = length out ≤ 18446744073709551615

-- a response with no payload, and with a member's number of 2 to 536,870,911
pub record ResponsesTaken : Type 0 where
  pub none : (code : ℤ) (body out : List ℕ) → InSigned32 code → Lendable out → length (message_bytes (response_fields (extended code) None body)) ≤ length out
      → ResponseWritable code None body out
  pub member : (code : ℤ) (field : ℕ) (body out : List ℕ) → InSigned32 code → 2 ≤ field → field ≤ 536870911 → Lendable out
      → length (message_bytes (response_fields (extended code) (Some field) body)) ≤ length out → ResponseWritable code (Some field) body out

-- an envelope with no payload, with each response, and with another member's number, which is not 9
pub record EnvelopesTaken : Type 0 where
  pub none : (command : ℤ) (body out : List ℕ) → InSigned32 command → Lendable out
      → length (message_bytes (envelope_fields (extended command) Sent.None body)) ≤ length out → EnvelopeWritable command Sent.None body out
  pub response : (command code : ℤ) (body out : List ℕ) → InSigned32 command → InSigned32 code → Lendable out
      → length (message_bytes (envelope_fields (extended command) (Sent.Response code None) body)) ≤ length out
      → EnvelopeWritable command (Sent.Response code None) body out
  pub response-member : (command code : ℤ) (field : ℕ) (body out : List ℕ) → InSigned32 command → InSigned32 code → 2 ≤ field → field ≤ 536870911 → Lendable out
      → length (message_bytes (envelope_fields (extended command) (Sent.Response code (Some field)) body)) ≤ length out
      → EnvelopeWritable command (Sent.Response code (Some field)) body out
  pub member : (command : ℤ) (field : ℕ) (body out : List ℕ) → InSigned32 command → 2 ≤ field → field ≤ 536870911 → (field ≡ 9 → ⊥) → Lendable out
      → length (message_bytes (envelope_fields (extended command) (Sent.Member field) body)) ≤ length out → EnvelopeWritable command (Sent.Member field) body out

-- device information with any strings that are well formed and at most eight transports
unfoldable pub InformationTaken : Type 0
InformationTaken =
    (serial_number name : List ℕ) (transports : List ℤ) (device_type out : List ℕ) → AllInSigned32 transports → length transports ≤ 8
    → WellFormed serial_number → WellFormed name → WellFormed device_type → Lendable out
    → length (message_bytes (information_fields serial_number name transports device_type)) ≤ length out
    → InformationWritable serial_number name transports device_type out

-- device features of 64 bits
unfoldable pub FeaturesTaken : Type 0
FeaturesTaken =
    (features : DeviceFeatures) (out : List ℕ) → features.features ≤ 18446744073709551615 → features.device_attributes ≤ 18446744073709551615
    → length (message_bytes (features_fields features)) ≤ length out → FeaturesWritable features out

-- ---- by computation
-- an output that held something before
abbrev output : ℕ → List ℕ
output n = replicate n 170

abbrev some_features : DeviceFeatures
some_features = record { features = 300; device_attributes = 1 }

-- each into an output of exactly its size: `08 FF .. FF 01 12 02 F0 F1`, `08 5E 4A 07 08 03 12 03 41 42 43`, `0A 01 58 1A 02 00 04`, `08 Ac 02 10 01`
pub record OneOfEach : Type 0 where
  pub response : ReadsBack (response_written (negsuc 0) (Some 2) (240 ∷ 241 ∷ []) (output 15)) response_again (negsuc 0, Some 2, 240 ∷ 241 ∷ [])
  pub envelope : ReadsBack (envelope_written (pos 94) (Sent.Response (pos 3) (Some 2)) (65 ∷ 66 ∷ 67 ∷ []) (output 11)) envelope_again
      (pos 94, (Sent.Response (pos 3) (Some 2), 65 ∷ 66 ∷ 67 ∷ []))
  pub information : ReadsBack (information_written (88 ∷ []) [] (pos 0 ∷ pos 4 ∷ []) [] (output 7)) information_again (88 ∷ [], [], pos 0 ∷ pos 4 ∷ [], [])
  pub features : ReadsBack (features_written some_features (output 5)) features_of some_features
