use Prim.Native.Nat.{◌-◌}
use lib.ListN.{length}
use Rattle.wire.specs.Scan.{Clear}
use Rattle.utf8.proofs.check.bad_place.Given as goal

abbrev pub invariant-loop-at : goal.invariant-loop-at
invariant-loop-at l = Clear 128 255 l.string l.at

abbrev pub decreases-loop-at : goal.decreases-loop-at
decreases-loop-at l = length l.string - l.at
