use mathlib.Core.Path.{sym}
use Rattle.proto_schema.specs.declared.Schema.TheVariants as Schema
use Rattle.proto_reader.proofs.Steps.{fields_within}
use Rattle.msg_control.proofs.envelope.read_envelope.Goals as goal

pub read_payload-requires : goal.read_payload-requires
read_payload-requires c = (fields_within Schema.Envelope _ 0 _ (sym c.in_ok-gathered.ensures)).0.0
