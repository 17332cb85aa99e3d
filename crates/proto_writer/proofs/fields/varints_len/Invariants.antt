use Prim.Native.Nat.{◌+◌, ◌*◌, ◌≤◌}
use mathlib.Core.Path.{◌≡◌}
use lib.ListN.{length}
use Rattle.proto_writer.proofs.Runs.{varints_from}
use Rattle.proto_writer.proofs.fields.varints_len.Given as goal

abbrev pub invariant-loop-value : goal.invariant-loop-value
invariant-loop-value l = (l.value-index ≤ length l.list) × (l.n ≤ 10 * l.value-index) × (length (varints_from l.list 0) ≡ l.n + length (varints_from l.list l.value-index))
