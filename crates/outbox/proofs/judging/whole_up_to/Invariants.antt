-- The walk from the place on answers what the walk of the file answers.
use Prim.Native.Nat.{◌-◌}
use lib.ListN.{length}
use Rattle.outbox.specs.Format.{format_for}
use Rattle.outbox.proofs.Walk.{Walking}
use Rattle.outbox.proofs.judging.whole_up_to.Given as goal

abbrev pub invariant-loop-place : goal.invariant-loop-place
invariant-loop-place l = Walking (format_for l.version) l.file l.place

abbrev pub decreases-loop-place : goal.decreases-loop-place
decreases-loop-place l = length l.file - l.place
