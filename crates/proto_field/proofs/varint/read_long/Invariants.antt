-- The value so far grown by what the bytes from here tell is the value of the whole; the tenth byte alone can overflow.
use Prim.Native.Nat.{ℕ, ◌-◌, ◌*◌, ◌^◌, ◌<◌}
use mathlib.Core.Path.{◌≡◌}
use mathlib.Core.List.{List}
use lib.ListN.{drop}
use Rattle.proto_field.specs.Varint.{varint_from, varint_at}
use Rattle.proto_field.proofs.Varints.{top, grown}
use Rattle.proto_field.proofs.varint.read_long.Given as goal

pub record Here (s : List ℕ) (at value weight left i : ℕ) : Type 0 where
  pub room : weight * top left ≡ 2 ^ 64
  pub below : value < weight
  pub same : varint_at s at ≡ grown value weight (varint_from left i (drop i s))

abbrev pub invariant-loop-i : goal.invariant-loop-i
invariant-loop-i l = Here l.message l.at l.value l.weight l.left l.i
