-- What is written and the moved records from the place on join to the moved file.
use Prim.Native.Nat.{◌-◌}
use lib.ListN.{length}
use Rattle.outbox.specs.Format.{format_for}
use Rattle.outbox_move.proofs.Passing.{Writing}
use Rattle.outbox_move.proofs.passes.write_records.Given as goal

abbrev pub invariant-loop-found : goal.invariant-loop-found
invariant-loop-found l = Writing (format_for l.wished) (format_for l.own) l.file l.initial.out l.place l.at l.out

abbrev pub decreases-loop-found : goal.decreases-loop-found
decreases-loop-found l = length l.file - l.place
