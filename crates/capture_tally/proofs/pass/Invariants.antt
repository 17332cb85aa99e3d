-- Adding the packets from the place on, from the tally and buffer so far, gives what adding all gives.
use Prim.Native.Nat.{◌-◌}
use lib.ListN.{length}
use Rattle.capture_tally.proofs.Passing.{Passing}
use Rattle.capture_tally.proofs.pass.Given as goal

abbrev pub invariant-loop-at : goal.invariant-loop-at
invariant-loop-at l = Passing l.limit l.initial.tally l.initial.buffer l.capture l.at l.tally l.buffer

abbrev pub decreases-loop-at : goal.decreases-loop-at
decreases-loop-at l = length l.capture - l.at
