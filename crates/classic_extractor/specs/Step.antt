-- The extractor of Classic: one byte is one step. `limit` is the largest payload; the lent buffer has limit + 2 bytes.
use Rattle.std.specs.Prelude.{ℕ, ◌+◌, ◌-◌, List, [], ◌∷◌, cond, not, length, set, ltb}
use Rattle.wire.specs.Told.{line, table}
use Rattle.classic_frame.specs.Frame.{checked}
use Rattle.classic_extractor.specs.declared.state.Progress.{Progress}
use Rattle.classic_extractor.specs.Outcome.{Report, taken, skipped, frame, refused, number_of}
use Rattle.classic_extractor.specs.State.{outside, begun, body, ready}
use Rattle.classic_extractor.specs.Action.{Action, Skip, Begin, Restart, Go, Number, Store, Finish, Refuse, action_of}

-- what a step leaves: its report, the next state and the lent buffer
pub record ByteStep : Type 0 where
  pub report : Report
  pub next : Progress
  pub buffer : List ℕ

abbrev pub step : Report → Progress → List ℕ → ByteStep
step r s l = record { report = r; next = s; buffer = l }

-- an unescaped byte is stored at the count held, where there is room
unfoldable pub store_of : ℕ → Progress → List ℕ → ℕ → ByteStep
store_of limit s l x =
    cond (ltb s.held (limit + 2)) (step taken (body s.sequence (s.held + 1)) (set l s.held x)) (step (refused 24) outside l)

-- F1 in the body: the last two bytes held are the checksum of those before them
unfoldable pub end_of : Progress → List ℕ → Report
end_of s l =
    table
    (line 21 (ltb s.held 2)
    ∷ line 25 (not (checked l (s.held - 2)))
    ∷ [])
    refused (frame s.sequence (s.held - 2))

abbrev pub perform_of : ℕ → Progress → List ℕ → ℕ → Action → ByteStep
perform_of limit s l b Skip = step skipped s l
perform_of limit s l b Begin = step taken begun l
perform_of limit s l b Restart = step (refused 20) begun l
perform_of limit s l b (Go p) = step taken (record { phase = p; sequence = s.sequence; held = s.held }) l
perform_of limit s l b Number = step taken (body b s.held) l
perform_of limit s l b (Store x) = store_of limit s l x
perform_of limit s l b Finish = step (end_of s l) outside l
perform_of limit s l b (Refuse r) = step (refused (number_of r)) outside l

-- a byte, in a lawful state with a buffer of the right size
unfoldable pub advance_of : ℕ → Progress → List ℕ → ℕ → ByteStep
advance_of limit s l b = perform_of limit s l b (action_of s.phase b)

-- the step of one byte, on all inputs
abbrev pub byte_step_of : ℕ → Progress → List ℕ → ℕ → ByteStep
byte_step_of limit s l b = table (line 1 (not (ready limit s (length l))) ∷ []) (λ n. step (refused n) s l) (advance_of limit s l b)
