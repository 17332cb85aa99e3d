-- Walking from the place on, from what was gathered so far, gives what walking all gives; one law for each way through a turn.
use Prim.Native.Nat.{◌-◌}
use lib.ListN.{length}
use Rattle.proto_reader.specs.Walk.{field_at, fields_from}
use Rattle.proto_reader.proofs.Walks.{Walks}
use Rattle.proto_reader.proofs.reader.read_fields.Given as goal

abbrev pub invariant-loop-at : goal.invariant-loop-at
invariant-loop-at l = Walks (field_at l.schema) l.message (fields_from l.schema l.message l.from) l.at l.so_far

abbrev pub decreases-loop-at : goal.decreases-loop-at
decreases-loop-at l = length l.message - l.at
