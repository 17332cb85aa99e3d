-- Control messages for C: the calls of the readers and writers.
use Rattle.std.specs.Prelude.{ℕ, cond, List, [], map}
use Rattle.wire.specs.Told.{refused, written}
use Rattle.proto_field.specs.Signed.{signed_of}
use Rattle.proto_reader.specs.Refusal.{number_more}
use Rattle.msg_control.specs.declared.envelope.EnvelopePayload.{EnvelopePayload}
use Rattle.msg_control.specs.Envelope.{envelope_of, envelope_written}
use Rattle.msg_control.specs.Response.{response_from, response_written}
use Rattle.msg_device.specs.Features.{features_of, features_written}
use Rattle.msg_device.specs.Information.{information_of, information_written}
use Rattle.c_rows.specs.Row.{number_told}
use Rattle.c_message_rows.specs.Convert.{all_signed, envelope_row, response_row, features_row, information_row, text_call, response_payload_of}
use Rattle.c_rows.specs.Called.{Called, answers, writer_call}

unfoldable pub envelope_read_of : List ℕ → List ℕ → Called
envelope_read_of message answer = answers 6 answer [] (number_told (envelope_of message)) [] (envelope_row (envelope_of message))

unfoldable pub envelope_write_of : ℕ → EnvelopePayload → List ℕ → List ℕ → List ℕ → Called
envelope_write_of command payload bytes out answer = writer_call out answer (envelope_written (signed_of command) payload bytes out)

unfoldable pub response_read_of : List ℕ → List ℕ → Called
response_read_of message answer = answers 4 answer [] (number_told (response_from message 0)) [] (response_row (response_from message 0))

unfoldable pub response_write_of : ℕ → ℕ → List ℕ → List ℕ → List ℕ → Called
response_write_of code field bytes out answer =
    writer_call out answer (response_written (signed_of code) (response_payload_of code field) bytes out)

unfoldable pub features_read_of : List ℕ → List ℕ → Called
features_read_of message answer = answers 2 answer [] (number_told (features_of message)) [] (features_row (features_of message))

unfoldable pub features_write_of : ℕ → ℕ → List ℕ → List ℕ → Called
features_write_of features attributes out answer =
    writer_call out answer (features_written (record { features = features; device_attributes = attributes }) out)

unfoldable pub information_read_of : List ℕ → List ℕ → Called
information_read_of message answer =
    answers 17 answer [] (number_more (information_of message)) [] (information_row (information_of message))

-- a transport that is no signed number is out of range: 15
unfoldable pub information_write_of : List ℕ → List ℕ → List ℕ → List ℕ → List ℕ → List ℕ → Called
information_write_of serial_number name device_type transports out answer =
    text_call out answer
    (cond (all_signed transports) (information_written serial_number name (map signed_of transports) device_type out) (written (refused (15, [])) out))
