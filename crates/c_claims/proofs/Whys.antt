-- Why a capture is not lawful is told with the judge's verdict.
use Prim.Native.Nat.{ℕ}
use mathlib.Core.Path.{◌≡◌, refl}
use mathlib.Core.Bool.{Bool, true, false, cond}
use mathlib.Core.List.{List, [], ◌∷◌}
use lib.ListN.{length, take}
use borrow.Author.Tests.{eq-eqb, ne_eqb}
use Rattle.wire.specs.Told.{given, refused}
use Rattle.capture_reader.specs.Capture.{ToldAt, number_in}
use Rattle.capture_judge.specs.declared.capture.Judgement.{Judgement}
use Rattle.capture_judge.specs.declared.capture.Judgement.TheVariants.{Going, Stopped}
use Rattle.capture_judge.specs.Step.{all_idle}
use Rattle.capture_judge.specs.Capture.{traced_of, lawful, open·ended, answer_of, judged_of}
use Rattle.capture_why.specs.Why.{stopped_of, why_of}
use Rattle.c_rows.specs.Called.{answers}
use Rattle.c_judge.specs.Convert.{judged_row, why_row}
use Rattle.c_judge.specs.Calls.{capture_judge_of, capture_why_of}

same_number : (room limit : ℕ) (bytes : List ℕ) (t : ToldAt Judgement) → number_in (why_of room limit bytes t) ≡ number_in (answer_of t)
unfolding why_of
same_number room limit bytes (given v) = refl
same_number room limit bytes (refused why) = refl

ended : (idle : Bool) → (cond idle 1 2 ∷ 0 ∷ []) ≡ judged_row (given (cond idle lawful open·ended))
ended true = refl
ended false = refl

same_row : (room limit : ℕ) (bytes : List ℕ) (t : ToldAt Judgement) → take 2 (why_row (why_of room limit bytes t)) ≡ judged_row (answer_of t)
unfolding why_of stopped_of
same_row room limit bytes (given (Going s)) = ended (all_idle s)
same_row room limit bytes (given (Stopped at s)) = refl
same_row room limit bytes (refused why) = refl

-- by the numbers and rows of both
both : (n m : ℕ) (answer row r s : List ℕ) → n ≡ m → take 2 r ≡ s → length answer ≡ 31 → length row ≡ 2
    → let w = answers 31 answer [] n [] r in
    let j = answers 2 row [] m [] s in
    (w.number ≡ j.number) × ((w.number ≡ 1 → ⊥) → take 2 w.answer ≡ j.answer)
both n m answer row r s e q a b = rw (eq-eqb (length answer) 31 a, eq-eqb (length row) 2 b, ← e) (refl, λ h. rw (ne_eqb n 1 h) q)

pub why-agrees : (room limit : ℕ) (capture answer row : List ℕ) → length answer ≡ 31 → length row ≡ 2
    → let w = capture_why_of capture room limit answer in
    let j = capture_judge_of capture room limit row in
    (w.number ≡ j.number) × ((w.number ≡ 1 → ⊥) → take 2 w.answer ≡ j.answer)
unfolding capture_why_of capture_judge_of judged_of
why-agrees room limit capture answer row a b =
    let t = traced_of room limit capture in
    both (number_in (why_of room limit capture t)) (number_in (answer_of t)) answer row (why_row (why_of room limit capture t)) (judged_row (answer_of t))
    (same_number room limit capture t) (same_row room limit capture t) a b
