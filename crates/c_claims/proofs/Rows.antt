-- What refusal 1 leaves where an answer row is all that a call has beside its lent bytes.
use Prim.Native.Nat.{ℕ}
use mathlib.Core.Path.{◌≡◌, refl}
use mathlib.Core.Bool.{Bool, true, false}
use mathlib.Core.List.{List, [], ◌∷◌}
use native.Mathlib.Omega.{arith}
use lib.ListN.{length}
use lib.Dec.{eqb}
use Rattle.wire.specs.Told.{given, refused, Line, Written, WrittenOf, writes, written}
use Rattle.wire.proofs.Tables.{by-table}
use Rattle.c_rows.specs.Row.{afterwards, number_told, size_told}
use Rattle.c_rows.specs.Called.{Called, called, if_fit, answers, writer_call}
use Rattle.proto_reader.specs.Refusal.{number_more}
use Rattle.c_message_rows.specs.Convert.{wrote_row, text_call}
use Rattle.c_claims.specs.OneLeavesAll.{Keeps}

-- a call that is refused by its rows, or keeps all if it is not
pub keeps-if : (fit : Bool) (state lent answer : List ℕ) (done : Called) → Keeps state lent answer done → Keeps state lent answer (if_fit fit state lent answer done)
keeps-if true state lent answer done k = k
keeps-if false state lent answer done k = λ e. refl

-- a call with no state
pub keeps-answers : (size number : ℕ) (lent answer after row : List ℕ) → (number ≡ 1 → after ≡ lent)
    → Keeps [] lent answer (answers size answer lent number after row)
keeps-answers size number lent answer after row k =
    keeps-if (eqb (length answer) size) [] lent answer (called number [] after (afterwards number answer row)) (λ e. rw (e, k e))

-- a call that is done is not refused by 1
pub never : {A : Type 0} → ◌≡◌ {A = ℕ} 0 1 → A
never e = absurd (omega arith)

-- a writer's refusal leaves the output
pub writes-keeps : {A : Type 0} (lines : List Line) (a : A) (before after : List ℕ)
    → number_told (writes lines a before after).told ≡ 1 → (writes lines a before after).out ≡ before
writes-keeps lines a before after =
    by-table (λ w. number_told w.told ≡ 1 → w.out ≡ before) lines (λ n. written (refused n) before) (written (given a) after)
    (λ n e. refl) (λ h e. never e)

pub keeps-writer : (out answer : List ℕ) (w : Written ℕ) → (number_told w.told ≡ 1 → w.out ≡ out) → Keeps [] out answer (writer_call out answer w)
keeps-writer out answer w k = keeps-answers 1 (number_told w.told) out answer w.out (size_told w.told ∷ []) k

pub keeps-text : (out answer : List ℕ) (w : WrittenOf (ℕ × List ℕ) ℕ) → (number_more w.told ≡ 1 → w.out ≡ out) → Keeps [] out answer (text_call out answer w)
keeps-text out answer w k = keeps-answers 3 (number_more w.told) out answer w.out (wrote_row w.told) k
