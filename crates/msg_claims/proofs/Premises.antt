-- The premises of the round trips, built from the facts of docs/FORMATS.md; and the round trips that compute.
use mathlib.Core.Path.{refl}
use mathlib.Core.List.{List, [], ◌∷◌}
use native.Mathlib.Omega.{arith}
use lib.IntN.{ℤ, pos, negsuc}
use mir.Syntax.{w32}
use mir.Val.{SFits}
use Rattle.proto_field.specs.Varint.{varint_at}
use Rattle.proto_writer.specs.Varint.{varint_bytes}
use Rattle.proto_field.specs.Tag.{bad_tag, tag_at}
use Rattle.proto_field.specs.Value.{value_at}
use Rattle.proto_writer.specs.Writer.{tag_bytes, head_bytes, part_bytes, field_bytes}
use Rattle.proto_schema.specs.Schema.{role_of}
use Rattle.proto_reader.specs.Gathered.{with_transport}
use Rattle.proto_reader.specs.Walk.{entry_at, packed_from, judged, added_at, read_at, field_at, fields_from, with_string}
use Rattle.msg_control.specs.Response.{response_from, response_written}
use Rattle.msg_control.specs.Envelope.{payload_of, envelope_of, envelope_written}
use Rattle.utf8.specs.Table.{rows, within, row_of}
use Rattle.utf8.specs.WellFormed.{sequence_at, bad_place}
use Rattle.msg_device.specs.Information.{information_of, information_written}
use Rattle.msg_device.specs.Features.{features_of, features_written}
use Rattle.msg_claims.specs.RoundTrip.{AllSigned32}
use Rattle.msg_claims.specs.Premises.{InSigned32, AllInSigned32, ResponsesTaken, EnvelopesTaken, InformationTaken, FeaturesTaken, OneOfEach}

pub signed : (z : ℤ) → InSigned32 z → SFits w32 z
signed (pos n) h = record { sfits = omega arith }
signed (negsuc n) h = record { sfits = omega arith }

pub all-signed : (zs : List ℤ) → AllInSigned32 zs → AllSigned32 zs
all-signed [] h = tt
all-signed (z ∷ zs) h = (signed z h.0, all-signed zs h.1)

pub responses-taken : ResponsesTaken
responses-taken =
    record {
      none = λ code body out z lent room. record { signed = signed code z; numbered = tt; lent = omega arith; room = omega arith };
      member = λ code field body out z low high lent room. record { signed = signed code z; numbered = (omega arith, omega arith); lent = omega arith; room = omega arith };
    }

pub envelopes-taken : EnvelopesTaken
envelopes-taken =
    record {
      none = λ command body out z lent room. record { signed = signed command z; code = tt; numbered = tt; lent = omega arith; room = omega arith };
      response = λ command code body out z c lent room. record { signed = signed command z; code = signed code c; numbered = tt; lent = omega arith; room = omega arith };
      response-member = λ command code field body out z c low high lent room.
          record { signed = signed command z; code = signed code c; numbered = (omega arith, omega arith); lent = omega arith; room = omega arith };
      member = λ command field body out z low high other lent room.
          record { signed = signed command z; code = tt; numbered = ((omega arith, omega arith), other); lent = omega arith; room = omega arith };
    }

pub information-taken : InformationTaken
unfolding InformationTaken
information-taken serial name ts kind out zs most well₁ well₂ well₃ lent room =
    record { signed = all-signed ts zs; most = omega arith; strings = (well₁, (well₂, (well₃, tt))); lent = omega arith; room = omega arith }

pub features-taken : FeaturesTaken
unfolding FeaturesTaken
features-taken f out h₁ h₂ room = record { first = omega arith; second = omega arith; room = omega arith }

pub one-of-each : OneOfEach
unfolding varint_at varint_bytes bad_tag tag_at value_at tag_bytes head_bytes part_bytes field_bytes role_of with_transport entry_at packed_from judged added_at read_at field_at fields_from response_from response_written payload_of envelope_of envelope_written information_of information_written features_of features_written with_string bad_place sequence_at row_of rows within
one-of-each = record { response = refl; envelope = refl; information = refl; features = refl }
