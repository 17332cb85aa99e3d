-- Well-formed strings, and the place of the first sequence that no row describes.
use Rattle.std.specs.Prelude.{ℕ, zero, suc, ◌+◌, ◌≤◌, ◌≡◌, true, cond, List, [], ◌++◌, length, get_or, drop, eqb, ◌<◌, Option, MatchOption}
use Rattle.utf8.specs.Table.{described, begins, row_of}

-- a string that is cut, from its first byte on, into sequences that rows describe
pub data WellFormed : List ℕ → Type 0 where
  empty : WellFormed []
  more : {s : List ℕ} (sequence rest : List ℕ) → s ≡ sequence ++ rest → described sequence ≡ true → WellFormed rest → WellFormed s

-- how many bytes the sequence has that a string begins with; 0 where no row describes one
unfoldable pub sequence_at : List ℕ → ℕ
sequence_at s = cond (begins (row_of (get_or s 0 0)) s) (length (row_of (get_or s 0 0))) 0

-- a length is told where it is not 0
abbrev pub Tells : Option ℕ → ℕ → Type 0
Tells told n = MatchOption told (n ≡ 0) (λ m. (m ≡ n) × (0 < m))

-- sequence after sequence; fuel bounds their number, and as many as there are bytes is enough
abbrev pub bad_in : ℕ → List ℕ → ℕ
bad_in zero s = 0
bad_in (suc fuel) s = cond (eqb (sequence_at s) 0) 0 (sequence_at s + bad_in fuel (drop (sequence_at s) s))

-- the place of the first sequence that no row describes; the string's length if there is none
unfoldable pub bad_place : List ℕ → ℕ
bad_place s = bad_in (length s) s

-- n bytes of whole sequences stand first in a string; where n is 0 it begins with none
pub record Passes (s : List ℕ) (n : ℕ) : Type 0 where
  pub inside : n ≤ length s
  pub none : n ≡ 0 → bad_place s ≡ 0
  pub rest : bad_place s ≡ n + bad_place (drop n s)
