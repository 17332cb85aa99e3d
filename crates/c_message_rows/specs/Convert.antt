-- Control messages: the rows that tell what was read, and what the writers are given by numbers.
use Rattle.std.specs.Prelude.{ℕ, Bool, true, cond, not, ◌&&◌, List, [], ◌∷◌, ◌++◌, map, ℤ, get_or, replicate, eqb, Option, Some, None as absent}
use Rattle.wire.specs.Told.{Told, ToldMore, WrittenOf, given, refused}
use Rattle.proto_field.specs.declared.value.Part.{Part}
use Rattle.proto_field.specs.Signed.{signed_of, extended}
use Rattle.proto_reader.specs.Refusal.{number_more}
use Rattle.msg_control.specs.declared.envelope.Envelope.{Envelope}
use Rattle.msg_control.specs.declared.envelope.Payload.{Payload}
use Rattle.msg_control.specs.declared.envelope.Payload.TheVariants.{None, Response, Member}
use Rattle.msg_control.specs.declared.envelope.EnvelopePayload.{EnvelopePayload}
use Rattle.msg_control.specs.declared.envelope.EnvelopePayload.TheVariants as envelope
use Rattle.msg_control.specs.declared.response.Response as response
use Rattle.msg_device.specs.declared.features.DeviceFeatures.{DeviceFeatures}
use Rattle.msg_device.specs.declared.information.DeviceInformation.{DeviceInformation}
use Rattle.c_rows.specs.Called.{Called, answers}

-- ---- signed numbers: two's complement, extended to 64 bits

unfoldable pub is_signed : ℕ → Bool
is_signed n = eqb (extended (signed_of n)) n

unfoldable pub all_signed : List ℕ → Bool
all_signed [] = true
all_signed (n ∷ ns) = is_signed n && all_signed ns

-- ---- what was read, as rows

-- start, length
abbrev pub part_row : Part → List ℕ
part_row p = p.start ∷ p.len ∷ []

-- command; payload 0 none, 1 a response, 2 another member; error code; field and part of the member, or of the response's payload
abbrev pub payload_row : ℕ → Payload → List ℕ
payload_row command None = command ∷ 0 ∷ replicate 4 0
payload_row command (Response r) = command ∷ 1 ∷ extended r.error_code ∷ r.field ∷ part_row r.part
payload_row command (Member field part) = command ∷ 2 ∷ 0 ∷ field ∷ part_row part

abbrev pub envelope_row : Told Envelope → List ℕ
envelope_row (given e) = payload_row (extended e.command) e.payload
envelope_row (refused n) = replicate 6 0

-- error code, field, start, length
abbrev pub response_row : Told response.Response → List ℕ
response_row (given r) = extended r.error_code ∷ r.field ∷ part_row r.part
response_row (refused n) = replicate 4 0

-- features, device attributes
abbrev pub features_row : Told DeviceFeatures → List ℕ
features_row (given f) = f.features ∷ f.device_attributes ∷ []
features_row (refused n) = replicate 2 0

-- the three strings, and the number of transports
abbrev pub parts_row : DeviceInformation → List ℕ
parts_row i = part_row i.serial_number ++ (part_row i.name ++ (part_row i.device_type ++ (i.count ∷ [])))

abbrev pub transports_row : List ℤ → List ℕ
transports_row transports = map extended transports

-- the field and the place that go with a refusal; 0 where none does
abbrev pub fault_of : ℕ × List ℕ → List ℕ
fault_of why = get_or why.1 0 0 ∷ get_or why.1 1 0 ∷ []

abbrev pub fault_row : {A : Type 0} → ToldMore A → List ℕ
fault_row (given a) = replicate 2 0
fault_row (refused why) = fault_of why

abbrev pub information_row : ToldMore DeviceInformation → List ℕ
information_row (given i) = parts_row i ++ (transports_row i.transports ++ replicate 2 0)
information_row (refused why) = replicate 15 0 ++ fault_of why

-- how many bytes a writer of strings wrote, and the field and the place
abbrev pub wrote_row : ToldMore ℕ → List ℕ
wrote_row (given n) = n ∷ replicate 2 0
wrote_row (refused why) = 0 ∷ fault_of why

-- the call of such a writer
abbrev pub text_call : List ℕ → List ℕ → WrittenOf (ℕ × List ℕ) ℕ → Called
text_call out answer w = answers 3 answer out (number_more w.told) w.out (wrote_row w.told)

-- ---- what the writers are given; what no parameter of the library holds stands for member 0, which is out of range

-- field 0 is no payload
unfoldable pub response_payload_of : ℕ → ℕ → Option ℕ
response_payload_of code field =
    cond (not (is_signed code)) (Some 0)
    (cond (eqb field 0) absent (Some field))

unfoldable pub payload_for : ℕ → ℕ → ℕ → ℕ → EnvelopePayload
payload_for command payload code field =
    cond (not (is_signed command)) (envelope.Member 0)
    (cond (eqb payload 0) envelope.None
    (cond (eqb payload 1) (envelope.Response (signed_of code) (response_payload_of code field))
    (cond (eqb payload 2) (envelope.Member field) (envelope.Member 0))))
