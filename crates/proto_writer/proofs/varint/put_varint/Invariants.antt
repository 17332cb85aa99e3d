-- The digits written and those of the rest join to the varint's bytes; the rest is below what the digits left can hold.
use Prim.Native.Nat.{ℕ, ◌+◌, ◌<◌, ◌^◌}
use mathlib.Core.Path.{◌≡◌}
use mathlib.Core.List.{List}
use lib.ListN.{length}
use lib.Seq.{sets}
use Rattle.proto_writer.specs.Varint.{digits_of, varint_bytes}
use Rattle.proto_field.proofs.Varints.{top}
use Rattle.proto_writer.proofs.varint.put_varint.Given as goal

-- what is still to be written
pub record Left (out₀ : List ℕ) (at value : ℕ) (out : List ℕ) (rest i : ℕ) : Type 0 where
  pub left : ℕ
  pub small : rest < top left
  pub word : rest < 2 ^ 64
  pub target : sets out₀ at (varint_bytes value) ≡ sets out i (digits_of left rest)
  pub place : at + length (varint_bytes value) ≡ i + length (digits_of left rest)
  pub long : length out ≡ length out₀

abbrev pub invariant-loop-rest : goal.invariant-loop-rest
invariant-loop-rest l = Left l.initial.out l.at l.value l.out l.rest l.i

abbrev pub decreases-loop-rest : goal.decreases-loop-rest
decreases-loop-rest l = l.rest
