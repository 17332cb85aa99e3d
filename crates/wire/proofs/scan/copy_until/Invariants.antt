use Prim.Native.Nat.{ℕ, ◌-◌}
use mathlib.Core.Path.{◌≡◌}
use mathlib.Core.List.{List}
use lib.ListN.{length}
use Rattle.wire.specs.Scan.{Clear, Copied}
use Rattle.wire.proofs.scan.copy_until.Given as goal

abbrev pub invariant-loop-at : goal.invariant-loop-at
invariant-loop-at v =
    (length v.out ≡ length v.initial.out) × (Clear v.first v.last v.run v.i) × ((l : List ℕ) → Copied v.first v.last v.run v.at l v.from v.initial.out → Copied v.first v.last v.run v.at l v.i v.out)

abbrev pub decreases-loop-at : goal.decreases-loop-at
decreases-loop-at l = length l.run - l.i
