-- A row of few signed numbers.
use Prim.Native.Nat.{ℕ, ◌≤◌}
use mathlib.Core.Path.{◌≡◌, refl}
use mathlib.Core.Bool.{Bool, true, false, cond, false≢true}
use mathlib.Core.List.{List}
use lib.ListN.{length}
use lib.Dec.{ltb}
use borrow.Author.Tests.{ltb-false}
use Rattle.c_message_rows.specs.Convert.{all_signed}
use Rattle.c_reply.specs.Convert.{few_signed}

few-by : (many : Bool) (row : List ℕ) → ltb 8 (length row) ≡ many → cond many false (all_signed row) ≡ true → length row ≤ 8
few-by true row e h = absurd (false≢true h)
few-by false row e h = ltb-false 8 (length row) e

pub few-most : (row : List ℕ) → few_signed row ≡ true → length row ≤ 8
unfolding few_signed
few-most row h = few-by (ltb 8 (length row)) row refl h
