-- The packets written and those of the message bytes not yet moved join to the whole; a piece always stands behind its packet.
use Prim.Native.Nat.{◌-◌, ◌≤◌}
use mathlib.Core.Path.{◌≡◌}
use lib.ListN.{length}
use Rattle.ble_joined.specs.Joined.{message_in}
use Rattle.ble_joined.proofs.Joining.{Joining}
use Rattle.ble_joined.proofs.put_packets.Given as goal

abbrev pub invariant-loop-at : goal.invariant-loop-at
invariant-loop-at l =
    (length l.out ≡ length l.initial.out) × (l.at ≤ length l.initial.out) × Joining l.how (message_in l.total l.initial.out) l.total (length l.initial.out) l.out l.index l.start l.at

abbrev pub decreases-loop-at : goal.decreases-loop-at
decreases-loop-at l = length l.initial.out - l.at
