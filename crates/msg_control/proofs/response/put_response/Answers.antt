use native.Mathlib.Omega.{arith}
use Rattle.proto_writer.specs.Writer.{scalar}
use Rattle.proto_writer.proofs.Runs.{put-field, message-length}
use Rattle.proto_schema.specs.Schema.{error_code_field}
use Rattle.msg_control.specs.Response.{response_payload_fields}
use borrow.Author.Rules.{rules}
use Rattle.msg_control.proofs.response.put_response.Goals as goal

pub put_scalar-next-requires : goal.put_scalar-next-requires
put_scalar-next-requires c =
    (search rules, omega (arith, c.requires.1, message-length (scalar error_code_field c.args.code) (response_payload_fields c.args.payload c.args.body.now)))

pub put_response_payload-requires : goal.put_response_payload-requires
put_response_payload-requires c =
    (c.requires.0, omega (arith, c.requires.1, message-length (scalar error_code_field c.args.code) (response_payload_fields c.args.payload c.args.body.now), c.put_scalar-next.ensures.place, c.put_scalar-next.auto.out))

pub returns : goal.returns
returns c =
    put-field (scalar error_code_field c.args.code) (response_payload_fields c.args.payload c.args.body.now) c.put_scalar-next.ensures c.put_response_payload.ensures
