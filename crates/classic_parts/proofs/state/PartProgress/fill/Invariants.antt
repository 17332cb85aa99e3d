-- A fast pass and then one byte: both keep `Filling`, which says that filling the rest gives what filling all gives.
use Prim.Native.Nat.{◌-◌}
use lib.ListN.{length}
use Rattle.classic_parts.proofs.Filling.{Filling}
use Rattle.classic_parts.proofs.state.PartProgress.fill.Given as goal

abbrev pub invariant-loop-out : goal.invariant-loop-out
invariant-loop-out l = Filling l.payload l.initial.out l.initial.state l.out l.state l.taken l.i

abbrev pub decreases-loop-out : goal.decreases-loop-out
decreases-loop-out l = length l.out - l.i
