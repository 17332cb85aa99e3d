use Rattle.wire.specs.Scan.{Clear}
use Rattle.wire.proofs.scan.clear_from.Given as goal

abbrev pub invariant-loop-i : goal.invariant-loop-i
invariant-loop-i l = Clear l.first l.last l.run l.i
