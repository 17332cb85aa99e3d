-- Blocks of sixteen are copied while they are clear; the first that is not is copied up to its byte.
use Prim.Native.Nat.{◌-◌}
use lib.ListN.{length}
use Rattle.wire.specs.Scan.{Copied}
use Rattle.wire.proofs.scan.copy_clear.Given as goal

abbrev pub invariant-loop-i : goal.invariant-loop-i
invariant-loop-i l = Copied l.first l.last l.run l.at l.initial.out l.i l.out

abbrev pub decreases-loop-i : goal.decreases-loop-i
decreases-loop-i l = length l.run - l.i
