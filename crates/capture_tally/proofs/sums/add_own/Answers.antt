use Rattle.capture_tally.proofs.Fitting.{only-numbered}
use Rattle.capture_tally.proofs.sums.add_own.Goals as goal

pub returns : goal.returns
returns c = rw (c.add_to.ensures, c.stream_named.ensures, ← only-numbered c.args.number c.args.more)
