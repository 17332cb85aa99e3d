-- Laws over a whole table.
use Prim.Native.Nat.{ℕ}
use mathlib.Core.Path.{◌≡◌, refl}
use mathlib.Core.Bool.{Bool, true, false, cond}
use mathlib.Core.List.{List, [], ◌∷◌}
use Rattle.wire.specs.Told.{Told, given, refused, Line, table}
use Rattle.wire.proofs.Tests.{by_cond}

-- no line of the table holds
abbrev pub NoneHolds : List Line → Type 0
NoneHolds [] = Unit {0}
NoneHolds (r ∷ rs) = (r.holds ≡ false) × NoneHolds rs

-- a law holds of each refusal, and of the rest where no line holds
pub by-table : {A : Type 0} (P : A → Type 0) (lines : List Line) (refuse : ℕ → A) (rest : A)
    → ((n : ℕ) → P (refuse n)) → (NoneHolds lines → P rest) → P (table lines refuse rest)
by-table P [] refuse rest p q = q tt
by-table P (r ∷ rs) refuse rest p q =
    by_cond P r.holds (refuse r.number) (table rs refuse rest) (λ e. p r.number) (λ e. by-table P rs refuse rest p (λ es. q (e, es)))

through-line : {A B : Type 0} (f : Told A → B) (b : Bool) (n : ℕ) (x : B) (t : Told A) → x ≡ f t → cond b (f (refused n)) x ≡ f (cond b (refused n) t)
through-line f true n x t e = refl
through-line f false n x t e = e

-- what is done by a table is done by what the table tells
pub table-through : {A B : Type 0} (f : Told A → B) (rs : List Line) (a : A) → table rs (λ n. f (refused n)) (f (given a)) ≡ f (table rs refused (given a))
table-through f [] a = refl
table-through f (r ∷ rs) a = through-line f r.holds r.number _ _ (table-through f rs a)
