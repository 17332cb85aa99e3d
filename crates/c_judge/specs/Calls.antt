-- Captures for C: the calls.
use Rattle.std.specs.Prelude.{ℕ, List, []}
use Rattle.capture_reader.specs.Capture.{number_in}
use Rattle.capture_judge.specs.Capture.{traced_of, judged_of}
use Rattle.capture_why.specs.Why.{why_of}
use Rattle.c_rows.specs.Called.{Called, answers}
use Rattle.c_judge.specs.Convert.{judged_row, why_row}

unfoldable pub capture_judge_of : List ℕ → ℕ → ℕ → List ℕ → Called
capture_judge_of bytes room limit answer =
    let a = judged_of room limit bytes in
    answers 2 answer [] (number_in a) [] (judged_row a)

unfoldable pub capture_why_of : List ℕ → ℕ → ℕ → List ℕ → Called
capture_why_of bytes room limit answer =
    let e = why_of room limit bytes (traced_of room limit bytes) in
    answers 31 answer [] (number_in e) [] (why_row e)
