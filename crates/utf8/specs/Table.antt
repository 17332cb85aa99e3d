-- Unicode's Table 3-7: the kinds of sequences that well-formed UTF-8 is made of.
use Rattle.std.specs.Prelude.{ℕ, Bool, true, false, cond, ◌&&◌, ◌||◌, List, [], ◌∷◌, get_or, leb}
use Rattle.utf8.specs.declared.table.Range.{Range}

-- the bytes after the first, but for those second ones that a row narrows
abbrev pub tail : Range
tail = (0x80, 0xBF)

-- the table: a row has a range for each byte of a sequence
unfoldable pub rows : List (List Range)
rows =
    ((0x00, 0x7F) ∷ [])
    ∷ ((0xC2, 0xDF) ∷ tail ∷ [])
    ∷ ((0xE0, 0xE0) ∷ (0xA0, 0xBF) ∷ tail ∷ [])
    ∷ ((0xE1, 0xEC) ∷ tail ∷ tail ∷ [])
    ∷ ((0xED, 0xED) ∷ (0x80, 0x9F) ∷ tail ∷ [])
    ∷ ((0xEE, 0xEF) ∷ tail ∷ tail ∷ [])
    ∷ ((0xF0, 0xF0) ∷ (0x90, 0xBF) ∷ tail ∷ tail ∷ [])
    ∷ ((0xF1, 0xF3) ∷ tail ∷ tail ∷ tail ∷ [])
    ∷ ((0xF4, 0xF4) ∷ (0x80, 0x8F) ∷ tail ∷ tail ∷ [])
    ∷ []

unfoldable pub within : Range → ℕ → Bool
within r b = leb r.0 b && leb b r.1

-- a row describes a sequence: a byte in each of its ranges, and no more
abbrev pub row_describes : List Range → List ℕ → Bool
row_describes [] [] = true
row_describes [] (b ∷ s) = false
row_describes (r ∷ rs) [] = false
row_describes (r ∷ rs) (b ∷ s) = within r b && row_describes rs s

abbrev pub any_describes : List (List Range) → List ℕ → Bool
any_describes [] s = false
any_describes (r ∷ rs) s = row_describes r s || any_describes rs s

-- one of the nine rows describes a sequence
unfoldable pub described : List ℕ → Bool
described s = any_describes rows s

-- ---- how it is looked up
-- bytes begin with a sequence of a row
abbrev pub begins : List Range → List ℕ → Bool
begins [] s = true
begins (r ∷ rs) [] = false
begins (r ∷ rs) (b ∷ s) = within r b && begins rs s

abbrev pub no_range : Range
no_range = (0x00, 0x00)

abbrev pub lead_row : List (List Range) → ℕ → List Range
lead_row [] b = []
lead_row (r ∷ rs) b = cond (within (get_or r 0 no_range) b) r (lead_row rs b)

-- the row of sequences that begin with a byte; one of no bytes where there is none
unfoldable pub row_of : ℕ → List Range
row_of b = lead_row rows b
