use Rattle.wire.proofs.Runs.{Seeking}
use Rattle.wire.proofs.scan.any_in_range.Given as goal

abbrev pub invariant-loop-b : goal.invariant-loop-b
invariant-loop-b l = Seeking l.first l.last l.run l.found l.b-index
