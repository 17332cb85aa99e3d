-- The control envelope: a command and its payload: none, a response, or another member.
use Rattle.std.specs.Prelude.{ℕ, ◌+◌, Bool, false, cond, ◌||◌, List, [], ◌∷◌, ℤ, get_or, take, eqb, Result}
use Rattle.wire.specs.Told.{Told, told_by, given, and_then, Written}
use Rattle.proto_field.specs.Signed.{signed_of, extended}
use Rattle.proto_writer.specs.Writer.{Field, scalar, nested, message_bytes}
use Rattle.proto_field.specs.declared.value.Part.{Part}
use Rattle.proto_reader.specs.declared.gathered.Gathered.{Gathered}
use Rattle.proto_schema.specs.declared.Schema.TheVariants as Schema
use Rattle.msg_control.specs.declared.envelope.Envelope.{Envelope}
use Rattle.msg_control.specs.declared.envelope.Payload.{Payload}
use Rattle.msg_control.specs.declared.envelope.EnvelopePayload.{EnvelopePayload}
use Rattle.msg_control.specs.declared.envelope.EnvelopePayload.TheVariants as Sent
use Rattle.proto_schema.specs.Schema.{command_field, response_field, first}
use Rattle.proto_reader.specs.declared.refusal.MessageRefusal.{MessageRefusal}
use Rattle.proto_reader.specs.Refusal.{message_number, numbered}
use Rattle.proto_reader.specs.Walk.{fields_from}
use Rattle.proto_writer.specs.Message.{writes_message, bad_member}
use Rattle.msg_control.specs.Response.{response_from, response_parts, response_fields, bad_response_payload}

-- the payload by the member that was gathered: none, the response within its part, or another
unfoldable pub payload_of : List ℕ → Gathered → Told Payload
payload_of s g =
    cond (eqb g.field 0) (given Payload.None)
    (cond (eqb g.field response_field)
    (and_then (response_from (take (g.part.start + g.part.len) s) g.part.start) (λ r. given (Payload.Response r)))
    (given (Payload.Member g.field g.part)))

-- an envelope: it is read through before its response
unfoldable pub envelope_of : List ℕ → Told Envelope
envelope_of s =
    and_then (numbered (fields_from Schema.Envelope s 0)) (λ g.
    and_then (payload_of s g) (λ p. given (record { command = signed_of (get_or g.scalars first 0); payload = p })))

-- the answers of read_payload and read_envelope
abbrev pub told_payload : Result Payload MessageRefusal → Told Payload
told_payload = told_by message_number

abbrev pub told_envelope : Result Envelope MessageRefusal → Told Envelope
told_envelope = told_by message_number

-- the parts that a payload and an envelope tell
abbrev pub payload_parts : Payload → List Part
payload_parts Payload.None = []
payload_parts (Payload.Response r) = response_parts r
payload_parts (Payload.Member field p) = p ∷ []

abbrev pub envelope_parts : Envelope → List Part
envelope_parts e = payload_parts e.payload

-- the fields of an envelope, by the varint's value of its command and its payload
abbrev pub payload_fields : EnvelopePayload → List ℕ → List Field
payload_fields Sent.None body = []
payload_fields (Sent.Response code payload) body = nested response_field (message_bytes (response_fields (extended code) payload body)) ∷ []
payload_fields (Sent.Member field) body = nested field body ∷ []

abbrev pub envelope_fields : ℕ → EnvelopePayload → List ℕ → List Field
envelope_fields command payload body = scalar command_field command ∷ payload_fields payload body

-- a payload with which no envelope is written
abbrev pub bad_payload : EnvelopePayload → Bool
bad_payload Sent.None = false
bad_payload (Sent.Response code payload) = bad_response_payload payload
bad_payload (Sent.Member field) = bad_member field || eqb field response_field

-- an envelope written
unfoldable pub envelope_written : ℤ → EnvelopePayload → List ℕ → List ℕ → Written ℕ
envelope_written command payload body out = writes_message (bad_payload payload) (envelope_fields (extended command) payload body) out
