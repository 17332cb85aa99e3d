use Prim.Native.Nat.{◌-◌}
use lib.ListN.{length}
use Rattle.proto_reader.specs.Walk.{entry_at, packed_from}
use Rattle.proto_reader.proofs.Walks.{Walks}
use Rattle.proto_reader.proofs.reader.read_packed.Given as goal

abbrev pub invariant-loop-at : goal.invariant-loop-at
invariant-loop-at l = Walks entry_at l.message (packed_from l.message l.from l.fn.gathered) l.at l.gathered

abbrev pub decreases-loop-at : goal.decreases-loop-at
decreases-loop-at l = length l.message - l.at
