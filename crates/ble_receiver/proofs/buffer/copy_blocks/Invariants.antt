use Prim.Native.Nat.{ℕ, ◌-◌, ◌≤◌}
use mathlib.Core.Path.{◌≡◌}
use mathlib.Core.List.{List}
use lib.ListN.{length, take}
use lib.Seq.{sets}
use Rattle.ble_receiver.proofs.buffer.copy_blocks.Given as goal

abbrev pub invariant-loop-i : goal.invariant-loop-i
invariant-loop-i v =
    (v.i ≤ length v.run) × (length v.out ≡ length v.initial.out) × ((l : List ℕ) → v.initial.out ≡ sets l v.at (take v.from v.run) → v.out ≡ sets l v.at (take v.i v.run))

abbrev pub decreases-loop-i : goal.decreases-loop-i
decreases-loop-i l = length l.run - l.i
