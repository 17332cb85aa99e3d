-- Rows of signed numbers, number by number.
use Prim.Native.Nat.{ℕ, ◌+◌, ◌≤◌, ◌<◌}
use native.Mathlib.Numerals.{add-one}
use mathlib.Core.Path.{◌≡◌}
use mathlib.Core.Bool.{true, false}
use mathlib.Core.List.{List}
use lib.ListN.{length, get_or, drop, drop_of_length-le}
use lib.Seq.{drop-cons}
use Rattle.c_message_rows.specs.Convert.{is_signed, all_signed}

module _ (row : List ℕ) (i : ℕ) where
  -- a signed number leaves the rest to decide
  pub signed-more : i < length row → is_signed (get_or row i 0) ≡ true → all_signed (drop i row) ≡ all_signed (drop (i + 1) row)
  unfolding all_signed
  signed-more h e = rw (drop-cons row i 0 h, add-one, e)

  pub signed-stop : i < length row → is_signed (get_or row i 0) ≡ false → all_signed (drop i row) ≡ false
  unfolding all_signed
  signed-stop h e = rw (drop-cons row i 0 h, e)

  pub signed-end : length row ≤ i → all_signed (drop i row) ≡ true
  unfolding all_signed
  signed-end h = rw (drop_of_length-le row h)
