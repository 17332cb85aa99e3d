use borrow.Author.Tests.{eq-eqb, ne_eqb}
use Rattle.c_message_rows.specs.Convert.{response_payload_of}
use Rattle.c_message_rows.proofs.convert.response_payload.Goals as goal

pub returns-then-not-is_signed : goal.returns-then-not-is_signed
unfolding response_payload_of
returns-then-not-is_signed c = rw (← c.is_signed.ensures, c.if-not-is_signed.true-raw)

pub returns-then-field-eq-NO_FIELD : goal.returns-then-field-eq-NO_FIELD
unfolding response_payload_of
returns-then-field-eq-NO_FIELD c =
    rw (
      ← c.is_signed.ensures,
      c.if-not-is_signed.false-raw,
      eq-eqb _ _ c.if-field-eq-NO_FIELD.true,
    )

pub returns : goal.returns
unfolding response_payload_of
returns c =
    rw (
      ← c.is_signed.ensures,
      c.if-not-is_signed.false-raw,
      ne_eqb _ _ c.if-field-eq-NO_FIELD.false,
    )
