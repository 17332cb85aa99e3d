-- Which characters are not shown as text: control characters, and those that break a line or turn it round.
use Rattle.std.specs.Prelude.{ℕ, suc, Bool, false, cond, ◌&&◌, ◌||◌, List, [], ◌∷◌, length, eqb}
use Rattle.utf8.specs.declared.table.Range.{Range}
use Rattle.utf8.specs.Table.{within, begins}
use Rattle.utf8.specs.WellFormed.{bad_place}

-- U+0000 to U+001F, U+007F, U+0080 to U+009F, U+061C, U+200E and U+200F, U+2028 to U+202E, U+2066 to U+2069: a range for each byte
unfoldable pub hidden_rows : List (List Range)
hidden_rows =
    ((0x00, 0x1F) ∷ [])
    ∷ ((0x7F, 0x7F) ∷ [])
    ∷ ((0xC2, 0xC2) ∷ (0x80, 0x9F) ∷ [])
    ∷ ((0xD8, 0xD8) ∷ (0x9C, 0x9C) ∷ [])
    ∷ ((0xE2, 0xE2) ∷ (0x80, 0x80) ∷ (0x8E, 0x8F) ∷ [])
    ∷ ((0xE2, 0xE2) ∷ (0x80, 0x80) ∷ (0xA8, 0xAE) ∷ [])
    ∷ ((0xE2, 0xE2) ∷ (0x81, 0x81) ∷ (0xA6, 0xA9) ∷ [])
    ∷ []

abbrev pub any_begins : List (List Range) → List ℕ → Bool
any_begins [] s = false
any_begins (r ∷ rs) s = begins r s || any_begins rs s

-- a string begins with such a character
unfoldable pub is_hidden : List ℕ → Bool
is_hidden s = any_begins hidden_rows s

-- the place of the first of them, whatever stands before it; the string's length if there is none
unfoldable pub hidden_place : List ℕ → ℕ
hidden_place [] = 0
hidden_place (b ∷ s) = cond (is_hidden (b ∷ s)) 0 (suc (hidden_place s))

-- well formed, and every character is shown
unfoldable pub is_text : List ℕ → Bool
is_text s = eqb (bad_place s) (length s) && eqb (hidden_place s) (length s)

-- ---- as the code has it
-- by the first three bytes: characters of one byte, of two and of three
abbrev pub hidden_one : ℕ → Bool
hidden_one a = within (0x00, 0x1F) a || within (0x7F, 0x7F) a

abbrev pub hidden_two : ℕ → ℕ → Bool
hidden_two a b = (within (0xC2, 0xC2) a && within (0x80, 0x9F) b) || (within (0xD8, 0xD8) a && within (0x9C, 0x9C) b)

abbrev pub hidden_three : ℕ → ℕ → ℕ → Bool
hidden_three a b c =
    within (0xE2, 0xE2) a
    && ((within (0x80, 0x80) b && (within (0x8E, 0x8F) c || within (0xA8, 0xAE) c)) || (within (0x81, 0x81) b && within (0xA6, 0xA9) c))

abbrev pub hidden_by : ℕ → ℕ → ℕ → Bool
hidden_by a b c = hidden_one a || (hidden_two a b || hidden_three a b c)
