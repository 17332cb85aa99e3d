use Prim.Native.Nat.{ℕ, ◌+◌, ◌<◌, ◌≤◌}
use mathlib.Core.Path.{◌≡◌}
use lib.ListN.{length}
use Rattle.proto_writer.specs.Varint.{digits_of, varint_bytes}
use Rattle.proto_field.proofs.Varints.{top}
use Rattle.proto_writer.proofs.varint.varint_len.Given as goal

pub record Counted (value rest n : ℕ) : Type 0 where
  pub left : ℕ
  pub small : rest < top left
  pub same : length (varint_bytes value) + 1 ≡ n + length (digits_of left rest)
  pub few : length (varint_bytes value) ≤ 10

abbrev pub invariant-loop-rest : goal.invariant-loop-rest
invariant-loop-rest l = Counted l.value l.rest l.n

abbrev pub decreases-loop-rest : goal.decreases-loop-rest
decreases-loop-rest l = l.rest
