use mathlib.Core.Path.{sym}
use Rattle.proto_schema.specs.declared.Schema.TheVariants as Schema
use Rattle.proto_reader.proofs.Steps.{fields_within}
use Rattle.msg_control.proofs.response.response_from.Goals as goal

pub returns-clause-tells_within : goal.returns-clause-tells_within
returns-clause-tells_within c = ((fields_within Schema.Response _ _ _ (sym c.in_ok-gathered.ensures)).0.0, tt)
