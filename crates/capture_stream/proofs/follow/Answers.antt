use borrow.Author.Tests.{not-true, not-false}
use Rattle.capture_stream.specs.Slot.{next_step}
use Rattle.capture_stream.proofs.Fitting.{next_small}
use Rattle.capture_stream.proofs.follow.Goals as goal

pub returns-then-not-next_fits : goal.returns-then-not-next_fits
unfolding next_step
returns-then-not-next_fits c = rw (← c.next_fits.ensures, not-true c.next_fits.result c.if-not-next_fits.true-raw)

pub overflow_sub-rest : goal.overflow_sub-rest
overflow_sub-rest c =
    next_small c.args.room c.args.id c.args.left c.args.sequence c.args.head c.args.ack c.args.last c.args.start c.args.len (rw c.next_fits.ensures at (not-false c.next_fits.result c.if-not-next_fits.false-raw))

pub returns : goal.returns
unfolding next_step
returns c =
    rw (← c.next_fits.ensures, not-false c.next_fits.result c.if-not-next_fits.false-raw, c.slot_for.ensures, c.sequence_after-after.ensures.0)
