-- The total so far and the sizes of the records from the place on are the moved file's size; a record that does not fit ends it.
use Prim.Native.Nat.{◌-◌}
use lib.ListN.{length}
use Rattle.outbox.specs.Format.{format_for}
use Rattle.outbox_move.proofs.Passing.{Counting}
use Rattle.outbox_move.proofs.passes.count.Given as goal

abbrev pub invariant-loop-found : goal.invariant-loop-found
invariant-loop-found l = Counting (format_for l.wished) (format_for l.own) l.file l.place l.total

abbrev pub decreases-loop-found : goal.decreases-loop-found
decreases-loop-found l = length l.file - l.place
