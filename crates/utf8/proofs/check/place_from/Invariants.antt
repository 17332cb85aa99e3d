use Prim.Native.Nat.{◌+◌, ◌-◌, ◌≤◌}
use mathlib.Core.Path.{◌≡◌}
use lib.ListN.{length, drop}
use Rattle.utf8.specs.WellFormed.{bad_place}
use Rattle.utf8.proofs.check.place_from.Given as goal

abbrev pub invariant-loop-at : goal.invariant-loop-at
invariant-loop-at l = (l.at ≤ length l.string) × (bad_place l.string ≡ l.at + bad_place (drop l.at l.string))

abbrev pub decreases-loop-at : goal.decreases-loop-at
decreases-loop-at l = length l.string - l.at
