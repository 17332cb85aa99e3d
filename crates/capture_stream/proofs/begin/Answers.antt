use mathlib.Core.Bool.{true}
use borrow.Author.Tests.{not-true, not-false}
use Rattle.capture_stream.specs.Slot.{first_step}
use Rattle.capture_stream.proofs.Fitting.{fits-small}
use Rattle.capture_stream.proofs.begin.Goals as goal

pub returns-then-not-fits_piece : goal.returns-then-not-fits_piece
unfolding first_step
returns-then-not-fits_piece c = rw (← c.fits_piece.ensures, not-true c.fits_piece.result c.if-not-fits_piece.true-raw)

pub overflow_sub-left : goal.overflow_sub-left
overflow_sub-left c =
    fits-small c.args.room c.args.total c.args.start c.args.len true c.args.ack (rw c.fits_piece.ensures at (not-false c.fits_piece.result c.if-not-fits_piece.false-raw))

pub returns : goal.returns
unfolding first_step
returns c =
    rw (← c.fits_piece.ensures, not-false c.fits_piece.result c.if-not-fits_piece.false-raw, c.slot_for.ensures, c.sequence_after-sequence.ensures.0)
