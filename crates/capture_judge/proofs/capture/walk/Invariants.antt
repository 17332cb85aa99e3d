-- Judging the packets from the place on, from the verdict so far, gives what judging all gives.
use Prim.Native.Nat.{◌-◌}
use lib.ListN.{length}
use Rattle.capture_judge.proofs.Walking.{Judging}
use Rattle.capture_judge.proofs.capture.walk.Given as goal

abbrev pub invariant-loop-at : goal.invariant-loop-at
invariant-loop-at l = Judging l.settings.room l.settings.limit l.capture l.at l.verdict

abbrev pub decreases-loop-at : goal.decreases-loop-at
decreases-loop-at l = length l.capture - l.at
