-- A fast pass and then one step: both keep `Running`, which says that feeding the rest gives what feeding all gives.
use Prim.Native.Nat.{◌-◌}
use lib.ListN.{length}
use Rattle.classic_feed.proofs.Loop.{Running}
use Rattle.classic_feed.proofs.many.run.Given as goal

abbrev pub invariant-loop-i : goal.invariant-loop-i
invariant-loop-i l = Running l.limit l.bytes l.initial.buffer l.initial.state l.buffer l.state l.i

abbrev pub decreases-loop-i : goal.decreases-loop-i
decreases-loop-i l = length l.bytes - l.i
