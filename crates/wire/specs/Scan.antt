-- Runs of bytes outside a range.
use Rattle.std.specs.Prelude.{ℕ, ◌≤◌, ◌≡◌, List, [], ◌∷◌, Bool, true, false, cond, length, take, ltb, leb}
use Rattle.std.proofs.lemmas.List.Edits.{sets}

-- a byte from first to last
unfoldable pub in_range : ℕ → ℕ → ℕ → Bool
in_range first last b = cond (ltb b first) false (leb b last)

unfoldable pub any_in_range : ℕ → ℕ → List ℕ → Bool
any_in_range first last [] = false
any_in_range first last (b ∷ bs) = cond (in_range first last b) true (any_in_range first last bs)

-- none of the first n bytes of a list lies in the range
pub record Clear (first last : ℕ) (l : List ℕ) (n : ℕ) : Type 0 where
  pub within : n ≤ length l
  pub none : any_in_range first last (take n l) ≡ false

-- .. and they are stored from a place on
pub record Copied (first last : ℕ) (run : List ℕ) (at : ℕ) (before : List ℕ) (n : ℕ) (after : List ℕ) : Type 0 where
  pub clear : Clear first last run n
  pub stored : after ≡ sets before at (take n run)
