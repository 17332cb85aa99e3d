-- The response: an error code, and any other length-delimited field as its optional payload.
use Rattle.std.specs.Prelude.{ℕ, Bool, false, List, [], ◌∷◌, ℤ, get_or, Option, Some, None, Result}
use Rattle.wire.specs.Told.{Told, told_by, given, and_then, Written}
use Rattle.proto_field.specs.Signed.{signed_of, extended}
use Rattle.proto_writer.specs.Writer.{Field, scalar, nested}
use Rattle.proto_field.specs.declared.value.Part.{Part}
use Rattle.proto_reader.specs.declared.gathered.Gathered.{Gathered}
use Rattle.proto_schema.specs.declared.Schema.TheVariants as Schema
use Rattle.msg_control.specs.declared.response.Response.{Response}
use Rattle.proto_schema.specs.Schema.{error_code_field, first}
use Rattle.proto_reader.specs.declared.refusal.MessageRefusal.{MessageRefusal}
use Rattle.proto_reader.specs.Refusal.{message_number, numbered}
use Rattle.proto_reader.specs.Walk.{fields_from}
use Rattle.proto_writer.specs.Message.{writes_message, bad_member}

-- the response that was gathered
abbrev pub response_made : Gathered → Response
response_made g = record { error_code = signed_of (get_or g.scalars first 0); field = g.field; part = g.part }

-- the response from a place to the end
unfoldable pub response_from : List ℕ → ℕ → Told Response
response_from s at = and_then (numbered (fields_from Schema.Response s at)) (λ g. given (response_made g))

-- the answers of response_from and read_response
abbrev pub told_response : Result Response MessageRefusal → Told Response
told_response = told_by message_number

-- the part that a response tells
abbrev pub response_parts : Response → List Part
response_parts r = r.part ∷ []

-- the fields of a response, by the varint's value of its error code and its optional payload
abbrev pub response_payload_fields : Option ℕ → List ℕ → List Field
response_payload_fields None body = []
response_payload_fields (Some field) body = nested field body ∷ []

abbrev pub response_fields : ℕ → Option ℕ → List ℕ → List Field
response_fields code payload body = scalar error_code_field code ∷ response_payload_fields payload body

-- a payload with which no response is written
abbrev pub bad_response_payload : Option ℕ → Bool
bad_response_payload None = false
bad_response_payload (Some field) = bad_member field

-- a response written
unfoldable pub response_written : ℤ → Option ℕ → List ℕ → List ℕ → Written ℕ
response_written code payload body out = writes_message (bad_response_payload payload) (response_fields (extended code) payload body) out
