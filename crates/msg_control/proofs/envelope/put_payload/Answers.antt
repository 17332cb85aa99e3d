-- By the payload's case: a response is its head and then its fields, another member a head and its part, joined by their places.
use mir.Syntax.{w32}
use mir.Facts.{to_z-of_z}
use native.Mathlib.Omega.{arith}
use mathlib.Core.Path.{◌≡◌, ap, ◌∙◌}
use lib.Dec.{eqb}
use lib.ListN.{length}
use Rattle.wire.proofs.Tests.{or-false}
use Rattle.proto_field.specs.Signed.{extended}
use Rattle.proto_writer.specs.Writer.{head_bytes, message_bytes}
use Rattle.proto_writer.proofs.Runs.{put-end, put_then, joined_length, part-is, nested-last}
use Rattle.proto_schema.specs.Schema.{response_field}
use Rattle.proto_writer.specs.Message.{bad_member}
use Rattle.msg_control.specs.Response.{response_fields}
use Rattle.proto_writer.proofs.Messages.{member-fits}
use borrow.Author.Rules.{rules}
use Rattle.msg_control.proofs.envelope.put_payload.Goals.{After-put_head-arg-1, After-sign_extended-code}
use Rattle.msg_control.proofs.envelope.put_payload.Goals as goal

-- the varint's value of the error code, and what was counted of the response
value : (c : After-sign_extended-code) → c.sign_extended-code.result ≡ extended c.in-Response.error_code
value c = c.sign_extended-code.ensures ∙ ap extended (to_z-of_z {w = w32} {z = c.in-Response.error_code} (search rules))

counted : (c : After-put_head-arg-1)
    → c.response_len-len.result ≡ length (message_bytes (response_fields (extended c.in-Response.error_code) c.in-Response.payload c.args.body.now))
counted c = rw (value (goal.at.put_head-start-requires c).After-sign_extended-code) at c.response_len-len.ensures.0

pub put_head-start-requires : goal.put_head-start-requires
put_head-start-requires c =
    let r = message_bytes (response_fields (extended c.in-Response.error_code) c.in-Response.payload c.args.body.now) in
    let q = rw c.in-Response.is at c.requires.1 in
    (search rules, rw (counted c) (omega (arith, q, joined_length (head_bytes response_field (length r)) r (part-is response_field r), ap length (nested-last response_field r))))

pub put_response-requires : goal.put_response-requires
put_response-requires c =
    let r = message_bytes (response_fields (extended c.in-Response.error_code) c.in-Response.payload c.args.body.now) in
    let q = rw c.in-Response.is at c.requires in (
      q.0,
      rw (value (goal.at.put_response-requires c).After-sign_extended-code)
          (omega (
            arith,
            q.1,
            rw (counted (goal.at.put_response-requires c).After-put_head-arg-1) at c.put_head-start.ensures.place,
            c.put_head-start.auto.out,
            joined_length (head_bytes response_field (length r)) r (part-is response_field r),
            ap length (nested-last response_field r),
          )),
    )

pub put_part-requires : goal.put_part-requires
put_part-requires c =
    let f = c.in-Member.field in
    let q = rw c.in-Member.is at c.requires in
    (member-fits f (or-false (bad_member f) (eqb f response_field) q.0).0, rw (nested-last f c.args.body.now) q.1)

pub returns-in-None : goal.returns-in-None
returns-in-None c = rw c.in-None.is (put-end c.args.out.now c.args.at)

pub returns-in-Response : goal.returns-in-Response
returns-in-Response c =
    let r = message_bytes (response_fields (extended c.in-Response.error_code) c.in-Response.payload c.args.body.now) in
    rw c.in-Response.is
    (put_then (head_bytes response_field (length r)) r (part-is response_field r ∙ nested-last response_field r)
    (rw (counted (goal.at.returns-in-Response c).After-put_head-arg-1) at c.put_head-start.ensures) (rw (value (goal.at.returns-in-Response c).After-sign_extended-code) at c.put_response.ensures))

pub returns-in-Member : goal.returns-in-Member
returns-in-Member c =
    rw (c.in-Member.is, ← nested-last c.in-Member.field c.args.body.now) c.put_part.ensures
