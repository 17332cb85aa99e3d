-- The sum so far and the sizes of the pieces from the start on are the sizes of all pieces.
use Prim.Native.Nat.{suc, ◌-◌}
use Rattle.ble_joined.proofs.Counting.{CountingPackets}
use Rattle.ble_joined.proofs.count_bytes.Given as goal

abbrev pub invariant-loop-going : goal.invariant-loop-going
invariant-loop-going l = CountingPackets l.room l.total l.index l.start l.sum l.going

abbrev pub decreases-loop-going : goal.decreases-loop-going
decreases-loop-going l = suc (suc l.total) - l.index
