use lib.ListN.{length-map}
use borrow.Author.Tests.{eq-eqb, ne_eqb, not-true, not-false}
use Rattle.c_messages.specs.Calls.{information_write_of}
use Rattle.c_message_rows.specs.Convert.{all_signed}
use Rattle.c_message_rows.proofs.Information.{too_many}
use Rattle.c_messages.proofs.calls.information_write.Goals as goal

pub returns-then-answer-ne-WROTE_ANSWER : goal.returns-then-answer-ne-WROTE_ANSWER
unfolding information_write_of
returns-then-answer-ne-WROTE_ANSWER c = rw (ne_eqb _ _ c.if-answer-ne-WROTE_ANSWER.true)

pub returns-then-transports-gt-MOST_TRANSPORTS : goal.returns-then-transports-gt-MOST_TRANSPORTS
unfolding information_write_of
returns-then-transports-gt-MOST_TRANSPORTS c =
    rw (
      eq-eqb _ _ c.if-answer-ne-WROTE_ANSWER.false,
      too_many c.args.serial_number.now c.args.name.now c.args.device_type.now c.args.transports.now c.args.output.now (all_signed c.args.transports.now) c.if-transports-gt-MOST_TRANSPORTS.true,
      c.tell_wrote.ensures.0,
      c.tell_wrote.ensures.1,
    )

pub returns-then-not-all_signed : goal.returns-then-not-all_signed
unfolding information_write_of
returns-then-not-all_signed c =
    rw (
      eq-eqb _ _ c.if-answer-ne-WROTE_ANSWER.false,
      ← c.all_signed.ensures,
      not-true c.all_signed.result c.if-not-all_signed.true-raw,
      c.tell_wrote-then-not-all_signed.ensures.0,
      c.tell_wrote-then-not-all_signed.ensures.1,
    )

pub slice_bounds-wanted-end : goal.slice_bounds-wanted-end
slice_bounds-wanted-end c = rw (c.signed_list-list.ensures, length-map)

pub returns : goal.returns
unfolding information_write_of
returns c =
    rw (
      eq-eqb _ _ c.if-answer-ne-WROTE_ANSWER.false,
      ← c.all_signed.ensures,
      not-false c.all_signed.result c.if-not-all_signed.false-raw,
      ← c.signed_list-list.ensures,
      ← c.write_information-wrote.ensures,
      c.tell_wrote-2.ensures.0,
      c.tell_wrote-2.ensures.1,
    )
