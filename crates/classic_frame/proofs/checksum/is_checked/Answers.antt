use Rattle.std.proofs.Common.{sym, arith, length-take-le}
use Rattle.classic_frame.specs.Frame.{checked}
use Rattle.classic_frame.proofs.checksum.is_checked.Goals as goal

pub slice_bounds-checksum-end : goal.slice_bounds-checksum-end
slice_bounds-checksum-end c = sym (length-take-le _ _ (omega arith))

pub returns : goal.returns
unfolding checked
returns c = rw (c.checksum-sum.ensures.0, c.pair.ensures.0)
