use Rattle.capture_stream.specs.Slot.{fits_piece}
use Rattle.capture_stream.proofs.fits_piece.Goals as goal

pub returns : goal.returns
unfolding fits_piece
returns c =
    rw (
      c.both-2.ensures,
      c.both.ensures,
      c.either-flagged.ensures,
      c.header_size-header.ensures.0,
      c.size_for-size.ensures,
    )
