-- The calls of the frame writer by parts, on all inputs. `limit` is the largest payload.
use Rattle.std.specs.Prelude.{ℕ, Bool, not, List, [], ◌∷◌, length, eqb, ltb, Result}
use Rattle.std.proofs.lemmas.List.Edits.{sets}
use Rattle.wire.specs.Told.{Told, given, refused, told_by, line, table}
use Rattle.wire.specs.Limit.{limit_fits}
use Rattle.classic_parts.specs.declared.state.PartProgress.{PartProgress}
use Rattle.classic_parts.specs.declared.state.PartWriter.{PartWriter}
use Rattle.classic_parts.specs.declared.writer.Refusal.{Refusal}
use Rattle.classic_parts.specs.declared.writer.Refusal.TheVariants.{Unlawful, TooMuch, NoRoom}
use Rattle.classic_parts.specs.declared.writer.BadStart.{BadStart}
use Rattle.classic_parts.specs.declared.writer.BadStart.TheVariants.{Limit, Argument}
use Rattle.classic_parts.specs.declared.writer.PartCount.{PartCount}
use Rattle.classic_parts.specs.State.{beginning, bad_start, lawful, missing, ended}
use Rattle.classic_parts.specs.Fill.{Filled, fill_of}

-- payload bytes taken, output bytes written, and whether the frame has ended
abbrev pub count : ℕ → ℕ → Bool → PartCount
count taken written over = record { taken = taken; written = written; ended = over }

-- what a call leaves: what it tells, the next state and the lent output
pub record PartWrote : Type 0 where
  pub told : Told PartCount
  pub next : PartProgress
  pub out : List ℕ

abbrev pub wrote : Told PartCount → PartProgress → List ℕ → PartWrote
wrote t s out = record { told = t; next = s; out = out }

abbrev pub filled : List ℕ → Filled → PartWrote
filled out f = wrote (given (count f.taken (length f.bytes) (ended f.next))) f.next (sets out 0 f.bytes)

-- the start
abbrev pub begin_of : ℕ → ℕ → ℕ → Told PartWriter
begin_of limit sequence total =
    table
    (line 17 (not (limit_fits limit))
    ∷ line 15 (bad_start limit sequence total)
    ∷ [])
    refused (given (beginning limit sequence total))

-- each later call
abbrev pub part_of : ℕ → PartProgress → List ℕ → List ℕ → PartWrote
part_of limit s offered out =
    table
    (line 1 (not (lawful limit s))
    ∷ line 26 (ltb (missing s) (length offered))
    ∷ line 14 (eqb (length out) 0)
    ∷ [])
    (λ n. wrote (refused n) s out)
    (filled out (fill_of (length out) s offered))

-- ---- what the code's answers tell

abbrev pub number_of : Refusal → ℕ
number_of Unlawful = 1
number_of TooMuch = 26
number_of NoRoom = 14

abbrev pub told : Result PartCount Refusal → Told PartCount
told = told_by number_of

-- .. of a frame that is not begun
abbrev pub begun_number : BadStart → ℕ
begun_number Limit = 17
begun_number Argument = 15

abbrev pub told_begun : Result PartWriter BadStart → Told PartWriter
told_begun = told_by begun_number
