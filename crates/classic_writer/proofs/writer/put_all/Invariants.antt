-- A plain run and then one escaped byte, until nothing is left: `Left` says that both write what the rest wants.
use Prim.Native.Nat.{◌-◌}
use mathlib.Core.Path.{◌≡◌}
use lib.ListN.{length}
use Rattle.classic_writer.specs.Writer.{Left}
use Rattle.classic_writer.proofs.writer.put_all.Given as goal

abbrev pub invariant-loop-at : goal.invariant-loop-at
invariant-loop-at l = (length l.out ≡ length l.initial.out) × Left l.bytes l.initial.out l.at 0 l.out l.place l.i

abbrev pub decreases-loop-at : goal.decreases-loop-at
decreases-loop-at l = length l.bytes - l.i
