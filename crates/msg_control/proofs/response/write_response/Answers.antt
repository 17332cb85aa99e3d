use native.Mathlib.Omega.{arith}
use mathlib.Core.Path.{◌≡◌, ap, sym, ◌∙◌}
use mathlib.Core.Bool.{false}
use mir.Facts.{to_z-of_z}
use Rattle.proto_field.specs.Signed.{extended}
use Rattle.msg_control.specs.Response.{bad_response_payload, response_fields, response_written}
use Rattle.proto_writer.proofs.Messages.{wrote-bad, wrote-short, wrote}
use Rattle.msg_control.proofs.response.write_response.Goals.{After-sign_extended-code, Else-bad_response_payload}
use Rattle.msg_control.proofs.response.write_response.Goals as goal

pub returns-then-bad_response_payload : goal.returns-then-bad_response_payload
unfolding response_written
returns-then-bad_response_payload c =
    wrote-bad _ (response_fields (extended c.args.error_code) c.args.payload c.args.body.now) c.args.out.now (sym c.bad_response_payload.ensures ∙ c.if-bad_response_payload.true)

-- the payload is one that is written
fine : (c : Else-bad_response_payload) → bad_response_payload c.args.payload ≡ false
fine c = sym c.bad_response_payload.ensures ∙ c.if-bad_response_payload.false

value : (c : After-sign_extended-code) → c.sign_extended-code.result ≡ extended c.args.error_code
value c = c.sign_extended-code.ensures ∙ ap extended (to_z-of_z c.ranges.error_code)

pub returns-then-out-len : goal.returns-then-out-len
unfolding response_written
returns-then-out-len c =
    wrote-short _ (response_fields (extended c.args.error_code) c.args.payload c.args.body.now) c.args.out.now (fine (goal.at.returns-then-out-len c).Else-bad_response_payload) (omega (arith, rw (value (goal.at.returns-then-out-len c).After-sign_extended-code) at c.response_len-len.ensures.0, c.if-out-len.true))

pub returns : goal.returns
unfolding response_written
returns c =
    wrote _ (response_fields (extended c.args.error_code) c.args.payload c.args.body.now) c.args.out.now (fine (goal.at.returns c).Else-bad_response_payload) (omega (arith, rw (value (goal.at.returns c).After-sign_extended-code) at c.response_len-len.ensures.0, c.if-out-len.false))
    (rw (value (goal.at.returns c).After-sign_extended-code) at c.put_response.ensures)
