-- A run and a pair, again and again: each keeps `PartOnward`, and so does the one after the other.
use Prim.Native.Nat.{◌-◌}
use mathlib.Core.Path.{◌≡◌}
use mathlib.Core.Bool.{true}
use lib.ListN.{length}
use Rattle.classic_parts.specs.State.{in_payload}
use Rattle.classic_parts.specs.FastPath.{PartOnward}
use Rattle.classic_parts.proofs.state.PartProgress.take_body.Given as goal

abbrev pub invariant-loop-place : goal.invariant-loop-place
invariant-loop-place l = (PartOnward l.payload l.initial.here l.initial.out l.taken l.at l.here l.out l.got l.place) × (in_payload l.here ≡ true)

abbrev pub decreases-loop-place : goal.decreases-loop-place
decreases-loop-place l = length l.out - l.place
