-- What is written and what is left join to the whole list's bytes, at every turn.
use Prim.Native.Nat.{ℕ, ◌+◌, ◌≤◌}
use mathlib.Core.Path.{◌≡◌}
use mathlib.Core.List.{List}
use lib.IntN.{ℤ}
use lib.ListN.{length}
use lib.Seq.{sets}
use Rattle.proto_writer.proofs.Runs.{varints_from}
use Rattle.proto_writer.proofs.fields.put_varints.Given as goal

-- what is still to be written
pub record Left (out₀ : List ℕ) (at : ℕ) (list : List ℤ) (out : List ℕ) (next i : ℕ) : Type 0 where
  pub inside : i ≤ length list
  pub long : length out ≡ length out₀
  pub place : at + length (varints_from list 0) ≡ next + length (varints_from list i)
  pub target : sets out₀ at (varints_from list 0) ≡ sets out next (varints_from list i)

abbrev pub invariant-loop-value : goal.invariant-loop-value
invariant-loop-value l = Left l.initial.out l.at l.list l.out l.next l.value-index
