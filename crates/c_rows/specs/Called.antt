-- What a call from C leaves.
use Rattle.std.specs.Prelude.{ℕ, Bool, cond, List, [], ◌∷◌, length, eqb}
use Rattle.wire.specs.Told.{Written}
use Rattle.c_rows.specs.Row.{afterwards, number_told, size_told}

-- the number that it returns, and its state row, lent bytes and answer row afterwards; what a function does not have is empty
pub record Called : Type 0 where
  pub number : ℕ
  pub state : List ℕ
  pub lent : List ℕ
  pub answer : List ℕ

abbrev pub called : ℕ → List ℕ → List ℕ → List ℕ → Called
called n s l a = record { number = n; state = s; lent = l; answer = a }

-- a call whose rows fit does its work; any other is refused by 1, and nothing changes
abbrev pub if_fit : Bool → List ℕ → List ℕ → List ℕ → Called → Called
if_fit fit state lent answer done = cond fit done (called 1 state lent answer)

-- a call with no state: its answer row has this many numbers; then what it returns, the lent bytes afterwards, and the row that it tells
abbrev pub answers : ℕ → List ℕ → List ℕ → ℕ → List ℕ → List ℕ → Called
answers size answer before number after row =
    if_fit (eqb (length answer) size) [] before answer (called number [] after (afterwards number answer row))

-- the call of a writer that tells how many bytes it wrote
abbrev pub writer_call : List ℕ → List ℕ → Written ℕ → Called
writer_call out answer w = answers 1 answer out (number_told w.told) w.out (size_told w.told ∷ [])
