use Rattle.proto_field.proofs.SignedNumbers.{signed-kept}
use borrow.Author.Tests.{eq-eqb, ne_eqb}
use Rattle.c_message_rows.specs.Convert.{payload_for}
use Rattle.c_message_rows.proofs.convert.payload_for.Goals as goal

pub returns-then-not-is_signed : goal.returns-then-not-is_signed
unfolding payload_for
returns-then-not-is_signed c = rw (← c.is_signed.ensures, c.if-not-is_signed.true-raw)

pub returns-then-payload-eq-NONE : goal.returns-then-payload-eq-NONE
unfolding payload_for
returns-then-payload-eq-NONE c =
    rw (
      ← c.is_signed.ensures,
      c.if-not-is_signed.false-raw,
      eq-eqb _ _ c.if-payload-eq-NONE.true,
    )

pub returns-then-payload-eq-RESPONSE : goal.returns-then-payload-eq-RESPONSE
unfolding payload_for
returns-then-payload-eq-RESPONSE c =
    rw (
      ← c.is_signed.ensures,
      c.if-not-is_signed.false-raw,
      ne_eqb _ _ c.if-payload-eq-NONE.false,
      eq-eqb _ _ c.if-payload-eq-RESPONSE.true,
      c.response_payload-within.ensures,
      signed-kept _ c.args.error_code c.low_signed.ensures,
    )

pub returns-then-payload-eq-MEMBER : goal.returns-then-payload-eq-MEMBER
unfolding payload_for
returns-then-payload-eq-MEMBER c =
    rw (
      ← c.is_signed.ensures,
      c.if-not-is_signed.false-raw,
      ne_eqb _ _ c.if-payload-eq-NONE.false,
      ne_eqb _ _ c.if-payload-eq-RESPONSE.false,
      eq-eqb _ _ c.if-payload-eq-MEMBER.true,
    )

pub returns : goal.returns
unfolding payload_for
returns c =
    rw (
      ← c.is_signed.ensures,
      c.if-not-is_signed.false-raw,
      ne_eqb _ _ c.if-payload-eq-NONE.false,
      ne_eqb _ _ c.if-payload-eq-RESPONSE.false,
      ne_eqb _ _ c.if-payload-eq-MEMBER.false,
    )
