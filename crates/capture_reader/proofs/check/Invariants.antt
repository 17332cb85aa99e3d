-- The loop has walked whole packets up to its place; each turn passes one, or ends at what stands there.
use Prim.Native.Nat.{◌-◌}
use lib.ListN.{length}
use Rattle.wire.specs.Told.{given}
use Rattle.capture_reader.specs.Capture.{checked_of}
use Rattle.capture_reader.proofs.Walking.{PacketWalk}
use Rattle.capture_reader.proofs.check.Given as goal

abbrev pub invariant-loop-at : goal.invariant-loop-at
invariant-loop-at l = PacketWalk l.capture (checked_of l.capture) l.at (λ ps. given tt)

abbrev pub decreases-loop-at : goal.decreases-loop-at
decreases-loop-at l = length l.capture - l.at
