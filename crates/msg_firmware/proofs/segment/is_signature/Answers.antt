use borrow.Author.Tests.{eq-eqb, ne_eqb}
use Rattle.msg_firmware.specs.Segment.{is_signature}
use Rattle.msg_firmware.proofs.segment.is_signature.Goals as goal

pub returns-then-bytes-ne-SIGNATURE_DIGITS : goal.returns-then-bytes-ne-SIGNATURE_DIGITS
unfolding is_signature
returns-then-bytes-ne-SIGNATURE_DIGITS c = rw (ne_eqb _ _ c.if-bytes-ne-SIGNATURE_DIGITS.true)

pub returns : goal.returns
unfolding is_signature
returns c = rw (eq-eqb _ _ c.if-bytes-ne-SIGNATURE_DIGITS.false) c.all_digits.ensures
