use native.Mathlib.Omega.{arith}
use Rattle.proto_writer.specs.Writer.{scalar}
use Rattle.proto_writer.proofs.Runs.{message-length}
use Rattle.proto_schema.specs.Schema.{error_code_field}
use Rattle.msg_control.specs.Response.{response_payload_fields}
use Rattle.msg_control.proofs.response.response_len.Goals as goal

pub returns : goal.returns
returns c =
    (omega (arith, message-length (scalar error_code_field c.args.code) (response_payload_fields c.args.payload c.args.body.now)), omega arith)
