use lib.Dec.{leb}
use Rattle.wire.proofs.Runs.{Seeking}
use Rattle.utf8.proofs.check.any_above.Given as goal

abbrev pub invariant-loop-b : goal.invariant-loop-b
invariant-loop-b l = Seeking 128 255 l.run (leb 128 l.joined) l.b-index
