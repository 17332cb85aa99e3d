-- Functions of the toolkit at the ends of what they are given: rows that hold the interpreter of tools/mutate to the checker.
use Rattle.std.specs.Prelude.{ℕ, ◌-◌, ◌/◌, ◌%◌, ◌^◌, ◌≡◌, List, [], ◌∷◌, map, take, drop, get_or, set, replicate}
use Rattle.std.proofs.lemmas.List.Edits.{sets}

unfoldable pub toolkit_rows : List (List ℕ × List ℕ)
toolkit_rows =
    -- a difference is never under 0; a division by 0 gives 0, and its rest is all of it
    ((3 - 5) ∷ (5 - 3) ∷ 7 / 0 ∷ 7 % 0 ∷ 7 / 2 ∷ 7 % 2 ∷ 2 ^ 3 ∷ 2 ^ 0 ∷ [], 0 ∷ 2 ∷ 0 ∷ 7 ∷ 3 ∷ 1 ∷ 8 ∷ 1 ∷ [])
    -- past the end of a list: all or nothing is taken and dropped, the other value is found, nothing is stored
    ∷ (take 5 (1 ∷ 2 ∷ []), 1 ∷ 2 ∷ [])
    ∷ (drop 5 (1 ∷ 2 ∷ []), [])
    ∷ (get_or (1 ∷ 2 ∷ []) 1 9 ∷ get_or (1 ∷ 2 ∷ []) 2 9 ∷ [], 2 ∷ 9 ∷ [])
    ∷ (set (1 ∷ 2 ∷ []) 1 9, 1 ∷ 9 ∷ [])
    ∷ (set (1 ∷ 2 ∷ []) 2 9, 1 ∷ 2 ∷ [])
    ∷ (sets (1 ∷ 2 ∷ 3 ∷ []) 1 (8 ∷ 9 ∷ []), 1 ∷ 8 ∷ 9 ∷ [])
    ∷ (sets (1 ∷ 2 ∷ 3 ∷ []) 2 (8 ∷ 9 ∷ []), 1 ∷ 2 ∷ 8 ∷ [])
    ∷ (sets (1 ∷ 2 ∷ 3 ∷ []) 3 (8 ∷ 9 ∷ []), 1 ∷ 2 ∷ 3 ∷ [])
    ∷ (replicate 0 7, [])
    ∷ []

-- each gives what its row says
unfoldable pub ToolkitEnds : Type 0
ToolkitEnds = map (λ c. c.0) toolkit_rows ≡ map (λ c. c.1) toolkit_rows
