-- Outbox files written in another version, for C.
use Rattle.std.specs.Prelude.{ℕ, List, [], ◌∷◌}
use Rattle.outbox.specs.Format.{Format}
use Rattle.outbox.specs.Reader.{Answer, given, refused, refused_at, number_in}
use Rattle.c_rows.specs.Called.{Called, answers}
use Rattle.outbox_move.specs.Moves.{move_of}

-- the bytes written, and the place that goes with a refusal of the file
abbrev pub moved_row : Answer ℕ → List ℕ
moved_row (given n) = n ∷ 0 ∷ []
moved_row (refused n) = 0 ∷ 0 ∷ []
moved_row (refused_at n place) = 0 ∷ place ∷ []

unfoldable pub outbox_move_of : Format → List ℕ → List ℕ → List ℕ → Called
outbox_move_of wished file out answer =
    let s = move_of wished file out in
    answers 2 answer out (number_in s.told) s.buffer (moved_row s.told)
