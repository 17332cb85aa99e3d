use lib.Dec.{eqb}
use Rattle.capture_stream.specs.Slot.{next_fits}
use Rattle.capture_stream.proofs.Fitting.{equal-same}
use Rattle.capture_stream.proofs.next_fits.Goals as goal

pub returns : goal.returns
unfolding next_fits
returns c =
    rw (
      c.both-2.ensures,
      c.both.ensures,
      c.both-whole.ensures,
      c.fits_piece-fits.ensures,
      equal-same c.args.last (eqb c.args.len c.args.left),
    )
