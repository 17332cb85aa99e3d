-- Reading what a writer wrote gives back every value and the bytes of every part, for all that a writer takes by docs/FORMATS.md, whatever the output held before.
use Rattle.std.specs.Prelude.{ℕ, ◌≤◌, ◌<◌, ◌^◌, ◌≡◌, cond, List, [], ◌∷◌, ℤ, length, take, eqb}
use Rattle.std.specs.Int.{w32}
use Rattle.std.proofs.Common.{SFits}
use Rattle.wire.specs.Told.{Told, ToldOf, given, refused, and_then, Written, WrittenOf, written, ToldMore}
use Rattle.proto_field.specs.Signed.{extended}
use Rattle.proto_field.specs.Tag.{last_field}
use Rattle.proto_field.specs.Value.{bytes_of}
use Rattle.proto_writer.specs.Writer.{message_bytes}
use Rattle.msg_control.specs.declared.response.Response.{Response}
use Rattle.std.specs.Prelude.{Option, Some, None}
use Rattle.msg_control.specs.declared.envelope.Envelope.{Envelope}
use Rattle.msg_control.specs.declared.envelope.Payload.{Payload}
use Rattle.msg_control.specs.declared.envelope.Payload.TheVariants as Payload
use Rattle.msg_control.specs.declared.envelope.EnvelopePayload.{EnvelopePayload}
use Rattle.msg_control.specs.declared.envelope.EnvelopePayload.TheVariants as Sent
use Rattle.msg_device.specs.declared.information.DeviceInformation.{DeviceInformation}
use Rattle.msg_device.specs.declared.features.DeviceFeatures.{DeviceFeatures}
use Rattle.proto_schema.specs.Schema.{response_field}
use Rattle.proto_reader.specs.Gathered.{most_transports}
use Rattle.msg_control.specs.Response.{response_from, response_fields, response_written}
use Rattle.msg_control.specs.Envelope.{envelope_of, envelope_fields, envelope_written}
use Rattle.proto_strings.specs.Texts.{AllWellFormed}
use Rattle.msg_device.specs.Information.{information_of, information_strings, information_fields, information_written}
use Rattle.msg_device.specs.Features.{features_of, features_fields, features_written}

-- a signed 32-bit number, a list of them, an output of the machine
abbrev pub Signed32 : ℤ → Type 0
Signed32 z = SFits w32 z

abbrev pub AllSigned32 : List ℤ → Type 0
AllSigned32 [] = Unit {0}
AllSigned32 (z ∷ zs) = Signed32 z × AllSigned32 zs

abbrev pub Lent : List ℕ → Type 0
Lent out = length out < 2 ^ 64

-- a member's number
abbrev pub MemberNumber : ℕ → Type 0
MemberNumber field = (2 ≤ field) × (field ≤ last_field)

-- something was given, and P holds of it
abbrev pub Gives : {N A : Type 0} → ToldOf N A → (A → Type 0) → Type 0
Gives (given a) P = P a
Gives (refused n) P = ⊥

-- a writer tells the number of its bytes, and of that many first bytes of the output a reader makes a
abbrev pub ReadsBack : {N A : Type 0} → WrittenOf N ℕ → (List ℕ → ToldOf N A) → A → Type 0
ReadsBack w read a = Gives w.told (λ n. read (take n w.out) ≡ given a)

-- neither a writer that refuses reads back, nor anything by a reader that does
unfoldable pub NoneRefused : Type 0
NoneRefused =
    ((n : ℕ) (out : List ℕ) (read : List ℕ → Told (List ℕ)) (a : List ℕ) → ReadsBack (written (refused n) out) read a → ⊥)
    × ((w : Written ℕ) (n : ℕ) (a : List ℕ) → ReadsBack w (λ s. refused n) a → ⊥)

-- ---- the response: error code, payload and the payload's bytes
abbrev pub inner_payload : ℕ → Option ℕ
inner_payload field = cond (eqb field 0) None (Some field)

-- the bytes that are written of those that are lent
abbrev pub inner_bytes : Option ℕ → List ℕ → List ℕ
inner_bytes None body = []
inner_bytes (Some field) body = body

abbrev pub response_contents : List ℕ → Response → ℤ × Option ℕ × List ℕ
response_contents s r = (r.error_code, inner_payload r.field, bytes_of s r.part)

abbrev pub response_again : List ℕ → Told (ℤ × Option ℕ × List ℕ)
response_again s = and_then (response_from s 0) (λ r. given (response_contents s r))

abbrev pub InnerNumbered : Option ℕ → Type 0
InnerNumbered None = Unit {0}
InnerNumbered (Some field) = MemberNumber field

-- what a response is written of
pub record ResponseWritable (code : ℤ) (payload : Option ℕ) (body out : List ℕ) : Type 0 where
  pub signed : Signed32 code
  pub numbered : InnerNumbered payload
  pub lent : Lent out
  pub room : length (message_bytes (response_fields (extended code) payload body)) ≤ length out

unfoldable pub ResponseRoundTrip : Type 0
ResponseRoundTrip =
    (code : ℤ) (payload : Option ℕ) (body out : List ℕ) → ResponseWritable code payload body out
    → ReadsBack (response_written code payload body out) response_again (code, payload, inner_bytes payload body)

-- ---- the envelope: command, payload and the payload's bytes
abbrev pub payload_contents : List ℕ → Payload → EnvelopePayload × List ℕ
payload_contents s Payload.None = (Sent.None, [])
payload_contents s (Payload.Response r) = (Sent.Response r.error_code (inner_payload r.field), bytes_of s r.part)
payload_contents s (Payload.Member field p) = (Sent.Member field, bytes_of s p)

abbrev pub payload_bytes : EnvelopePayload → List ℕ → List ℕ
payload_bytes Sent.None body = []
payload_bytes (Sent.Response code payload) body = inner_bytes payload body
payload_bytes (Sent.Member field) body = body

abbrev pub envelope_contents : List ℕ → Envelope → ℤ × (EnvelopePayload × List ℕ)
envelope_contents s e = (e.command, payload_contents s e.payload)

abbrev pub envelope_again : List ℕ → Told (ℤ × (EnvelopePayload × List ℕ))
envelope_again s = and_then (envelope_of s) (λ e. given (envelope_contents s e))

abbrev pub CodeSigned32 : EnvelopePayload → Type 0
CodeSigned32 Sent.None = Unit {0}
CodeSigned32 (Sent.Response code payload) = Signed32 code
CodeSigned32 (Sent.Member field) = Unit {0}

abbrev pub PayloadNumbered : EnvelopePayload → Type 0
PayloadNumbered Sent.None = Unit {0}
PayloadNumbered (Sent.Response code payload) = InnerNumbered payload
PayloadNumbered (Sent.Member field) = MemberNumber field × (field ≡ response_field → ⊥)

-- what an envelope is written of
pub record EnvelopeWritable (command : ℤ) (payload : EnvelopePayload) (body out : List ℕ) : Type 0 where
  pub signed : Signed32 command
  pub code : CodeSigned32 payload
  pub numbered : PayloadNumbered payload
  pub lent : Lent out
  pub room : length (message_bytes (envelope_fields (extended command) payload body)) ≤ length out

unfoldable pub EnvelopeRoundTrip : Type 0
EnvelopeRoundTrip =
    (command : ℤ) (payload : EnvelopePayload) (body out : List ℕ) → EnvelopeWritable command payload body out
    → ReadsBack (envelope_written command payload body out) envelope_again (command, (payload, payload_bytes payload body))

-- ---- device information: the three strings and the transports
abbrev pub information_contents : List ℕ → DeviceInformation → List ℕ × List ℕ × List ℤ × List ℕ
information_contents s i = (bytes_of s i.serial_number, bytes_of s i.name, take i.count i.transports, bytes_of s i.device_type)

abbrev pub information_again : List ℕ → ToldMore (List ℕ × List ℕ × List ℤ × List ℕ)
information_again s = and_then (information_of s) (λ i. given (information_contents s i))

-- what device information is written of
pub record InformationWritable (serial_number name : List ℕ) (transports : List ℤ) (device_type out : List ℕ) : Type 0 where
  pub signed : AllSigned32 transports
  pub most : length transports ≤ most_transports
  pub strings : AllWellFormed (information_strings serial_number name device_type)
  pub lent : Lent out
  pub room : length (message_bytes (information_fields serial_number name transports device_type)) ≤ length out

unfoldable pub InformationRoundTrip : Type 0
InformationRoundTrip =
    (serial_number name : List ℕ) (transports : List ℤ) (device_type out : List ℕ) → InformationWritable serial_number name transports device_type out
    → ReadsBack (information_written serial_number name transports device_type out) information_again (serial_number, name, transports, device_type)

-- ---- device features: the two numbers
-- what device features are written of
pub record FeaturesWritable (features : DeviceFeatures) (out : List ℕ) : Type 0 where
  pub first : features.features < 2 ^ 64
  pub second : features.device_attributes < 2 ^ 64
  pub room : length (message_bytes (features_fields features)) ≤ length out

unfoldable pub FeaturesRoundTrip : Type 0
FeaturesRoundTrip = (features : DeviceFeatures) (out : List ℕ) → FeaturesWritable features out → ReadsBack (features_written features out) features_of features
