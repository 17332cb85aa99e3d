use Rattle.wire.specs.Scan.{Copied}
use Rattle.wire.proofs.scan.copy_bytes.Given as goal

abbrev pub invariant-loop-i : goal.invariant-loop-i
invariant-loop-i l = Copied l.first l.last l.run l.at l.initial.out l.i l.out
