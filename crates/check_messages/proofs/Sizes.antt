-- What each writer tells of its size lies within the output.
use Prim.Native.Nat.{ℕ, ◌≤◌}
use mathlib.Core.Path.{◌≡◌}
use mathlib.Core.Bool.{false}
use mathlib.Core.List.{List}
use lib.IntN.{ℤ}
use lib.ListN.{length}
use lib.Dec.{ltb}
use Rattle.wire.specs.Told.{written}
use Rattle.proto_field.specs.Signed.{extended}
use Rattle.std.specs.Prelude.{Option, Result}
use Rattle.msg_control.specs.declared.envelope.EnvelopePayload.{EnvelopePayload}
use Rattle.msg_device.specs.declared.features.DeviceFeatures.{DeviceFeatures}
use Rattle.proto_writer.specs.declared.message.WriteRefusal.{WriteRefusal}
use Rattle.proto_reader.specs.Gathered.{most_transports}
use Rattle.proto_strings.specs.declared.TextWriteRefusal.{TextWriteRefusal}
use Rattle.proto_strings.specs.Texts.{told_text_wrote}
use Rattle.proto_writer.specs.Message.{told_wrote, wrote_size}
use Rattle.msg_control.specs.Response.{bad_response_payload, response_fields, response_written}
use Rattle.msg_control.specs.Envelope.{bad_payload, envelope_fields, envelope_written}
use Rattle.msg_device.specs.Information.{information_strings, information_fields, information_written}
use Rattle.msg_device.specs.Features.{features_fields, features_written}
use Rattle.proto_writer.proofs.Messages.{size-within}
use Rattle.check_answering.proofs.Sizes.{text-size}

module _ (w : Result ℕ WriteRefusal) (out l : List ℕ) where
  pub envelope-size : (z : ℤ) (payload : EnvelopePayload) (body : List ℕ) → written (told_wrote w) l ≡ envelope_written z payload body out → wrote_size w ≤ length l
  unfolding envelope_written
  envelope-size z payload body e = size-within w (bad_payload payload) (envelope_fields (extended z) payload body) out l e

  pub response-size : (z : ℤ) (payload : Option ℕ) (body : List ℕ) → written (told_wrote w) l ≡ response_written z payload body out → wrote_size w ≤ length l
  unfolding response_written
  response-size z payload body e = size-within w (bad_response_payload payload) (response_fields (extended z) payload body) out l e

  pub features-size : (f : DeviceFeatures) → written (told_wrote w) l ≡ features_written f out → wrote_size w ≤ length l
  unfolding features_written
  features-size f e = size-within w false (features_fields f) out l e

module _ (w : Result ℕ TextWriteRefusal) (out l : List ℕ) where
  pub information-size : (serial name : List ℕ) (ts : List ℤ) (kind : List ℕ) → written (told_text_wrote w) l ≡ information_written serial name ts kind out → wrote_size w ≤ length l
  unfolding information_written
  information-size serial name ts kind e = text-size out l (information_fields serial name ts kind) w (ltb most_transports (length ts)) (information_strings serial name kind) e
