use Rattle.wire.specs.Limit.{limit_fits}
use Rattle.wire.proofs.limit.limit_fits.Goals as goal

pub returns : goal.returns
unfolding limit_fits
returns c = c.both.ensures
