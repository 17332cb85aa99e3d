use mir.Syntax.{w32}
use mir.Facts.{to_z-of_z}
use native.Mathlib.Omega.{arith}
use mathlib.Core.Path.{◌≡◌, ap, ◌∙◌}
use lib.Dec.{eqb}
use lib.ListN.{length}
use Rattle.wire.proofs.Tests.{or-false}
use Rattle.proto_field.specs.Signed.{extended}
use Rattle.proto_writer.specs.Writer.{head_bytes, message_bytes}
use Rattle.proto_writer.proofs.Runs.{joined_length, part-is, nested-last}
use Rattle.proto_schema.specs.Schema.{response_field}
use Rattle.proto_writer.specs.Message.{bad_member}
use Rattle.msg_control.specs.Response.{response_fields}
use Rattle.proto_writer.proofs.Messages.{member-fits}
use borrow.Author.Rules.{rules}
use Rattle.msg_control.proofs.envelope.payload_len.Goals.{After-sign_extended}
use Rattle.msg_control.proofs.envelope.payload_len.Goals as goal

-- the varint's value of the error code
value : (c : After-sign_extended) → c.sign_extended.result ≡ extended c.in-Response.error_code
value c = c.sign_extended.ensures ∙ ap extended (to_z-of_z {w = w32} {z = c.in-Response.error_code} (search rules))

pub part_len-requires : goal.part_len-requires
part_len-requires c =
    let f = c.in-Member.field in
    member-fits f (or-false (bad_member f) (eqb f response_field) (rw c.in-Member.is at c.requires)).0

pub returns-in-Response : goal.returns-in-Response
returns-in-Response c =
    let r = message_bytes (response_fields (extended c.in-Response.error_code) c.in-Response.payload c.args.body.now) in
    let counted : c.response_len-len.result ≡ length r = rw (value (goal.at.returns-in-Response c).After-sign_extended) at c.response_len-len.ensures.0 in
    rw c.in-Response.is (
      omega (
        arith,
        rw counted at c.head_len.ensures.0,
        counted,
        joined_length (head_bytes response_field (length r)) r (part-is response_field r),
        ap length (nested-last response_field r),
      ),
      omega arith,
    )

pub returns-in-Member : goal.returns-in-Member
returns-in-Member c =
    let f = c.in-Member.field in
    rw c.in-Member.is (c.part_len.ensures.0 ∙ ap length (nested-last f c.args.body.now), omega arith)
