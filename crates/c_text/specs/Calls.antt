-- Texts for C: the calls.
use Rattle.std.specs.Prelude.{ℕ, cond, List, [], ◌∷◌, length, eqb}
use Rattle.utf8.specs.WellFormed.{bad_place}
use Rattle.utf8_shown.specs.Shown.{hidden_place}
use Rattle.c_rows.specs.Called.{Called, answers}

-- 36 where a sequence is not well formed
abbrev pub text_number : List ℕ → ℕ
text_number text = cond (eqb (bad_place text) (length text)) 0 36

-- the places of the first bad sequence and of the first character that is not shown
abbrev pub text_row : List ℕ → List ℕ
text_row text = bad_place text ∷ hidden_place text ∷ []

unfoldable pub text_of : List ℕ → List ℕ → Called
text_of text answer = answers 2 answer [] (text_number text) [] (text_row text)
