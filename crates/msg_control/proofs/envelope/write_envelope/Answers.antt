-- What was counted is the length of the bytes, so past the test of room both parts stand where the definition puts them.
use native.Mathlib.Omega.{arith}
use mathlib.Core.Path.{◌≡◌, ap, sym, ◌∙◌}
use mathlib.Core.Bool.{false}
use mathlib.Core.List.{List}
use Prim.Native.Nat.{ℕ, ◌+◌}
use lib.ListN.{length}
use mir.Facts.{to_z-of_z}
use Rattle.proto_field.specs.Signed.{extended}
use Rattle.proto_writer.specs.Writer.{scalar, field_bytes, message_bytes}
use Rattle.proto_writer.proofs.Runs.{put-field, message-length}
use Rattle.proto_schema.specs.Schema.{command_field}
use Rattle.msg_control.specs.declared.envelope.EnvelopePayload.{EnvelopePayload}
use Rattle.msg_control.specs.Envelope.{bad_payload, payload_fields, envelope_fields, envelope_written}
use Rattle.proto_writer.proofs.Messages.{wrote-bad, wrote-short, wrote}
use borrow.Author.Rules.{rules}
use Rattle.msg_control.proofs.envelope.write_envelope.Goals.{After-sign_extended-value, Else-bad_payload}
use Rattle.msg_control.proofs.envelope.write_envelope.Goals as goal

pub returns-then-bad_payload : goal.returns-then-bad_payload
unfolding envelope_written
returns-then-bad_payload c =
    wrote-bad _ (envelope_fields (extended c.args.command) c.args.payload c.args.body.now) c.args.out.now (sym c.bad_payload.ensures ∙ c.if-bad_payload.true)

-- the payload is one that is written
fine : (c : Else-bad_payload) → bad_payload c.args.payload ≡ false
fine c = sym c.bad_payload.ensures ∙ c.if-bad_payload.false

value : (c : After-sign_extended-value) → c.sign_extended-value.result ≡ extended c.args.command
value c = c.sign_extended-value.ensures ∙ ap extended (to_z-of_z c.ranges.command)

-- the two counts make the length of the bytes
counted : (v : ℕ) (p : EnvelopePayload) (body : List ℕ) {one two : ℕ}
    → one ≡ length (field_bytes (scalar command_field v)) → two ≡ length (message_bytes (payload_fields p body))
    → one + two ≡ length (message_bytes (envelope_fields v p body))
counted v p body h k = omega (arith, message-length (scalar command_field v) (payload_fields p body))

pub returns-then-out-len : goal.returns-then-out-len
unfolding envelope_written
returns-then-out-len c =
    let n = counted (extended c.args.command) c.args.payload c.args.body.now (rw (value (goal.at.returns-then-out-len c).After-sign_extended-value) at c.scalar_len.ensures.0) c.payload_len.ensures.0 in
    wrote-short _ (envelope_fields (extended c.args.command) c.args.payload c.args.body.now) c.args.out.now (fine (goal.at.returns-then-out-len c).Else-bad_payload) (omega (arith, n, c.if-out-len.true))

pub put_scalar-next-requires : goal.put_scalar-next-requires
put_scalar-next-requires c = (search rules, omega (arith, c.if-out-len.false, c.scalar_len.ensures.0))

pub put_payload-requires : goal.put_payload-requires
put_payload-requires c =
    (fine (goal.at.put_payload-requires c).Else-bad_payload, omega (arith, c.if-out-len.false, c.scalar_len.ensures.0, c.payload_len.ensures.0, c.put_scalar-next.ensures.place, c.put_scalar-next.auto.out))

pub returns : goal.returns
unfolding envelope_written
returns c =
    let fs = payload_fields c.args.payload c.args.body.now in
    let n = counted (extended c.args.command) c.args.payload c.args.body.now (rw (value (goal.at.returns c).After-sign_extended-value) at c.scalar_len.ensures.0) c.payload_len.ensures.0 in
    wrote _ (envelope_fields (extended c.args.command) c.args.payload c.args.body.now) c.args.out.now (fine (goal.at.returns c).Else-bad_payload) (omega (arith, n, c.if-out-len.false))
    (put-field (scalar command_field (extended c.args.command)) fs (rw (value (goal.at.returns c).After-sign_extended-value) at c.put_scalar-next.ensures) c.put_payload.ensures)
