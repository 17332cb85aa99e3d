-- The extractor's states: its link's limit, which is the largest payload, and its progress. The lent buffer has limit + 2 bytes.
use Rattle.std.specs.Prelude.{ℕ, ◌+◌, ◌≤◌, ◌≡◌, List, [], ◌∷◌, Bool, true, false, cond, not, ◌&&◌, length, leb, eqb, Result}
use Rattle.wire.specs.Told.{Told, given, refused, told_by, line, table}
use Rattle.wire.specs.Limit.{limit_fits, limit_number}
use Rattle.wire.specs.declared.limit.BadLimit.{BadLimit}
use Rattle.classic_frame.specs.Mark.{is_mark}
use Rattle.classic_extractor.specs.declared.state.Phase.{Phase}
use Rattle.classic_extractor.specs.declared.state.Phase.TheVariants.{Outside, PacketId, ErrorId, Sequence, Body, Escaped}
use Rattle.classic_extractor.specs.declared.state.Progress.{Progress}
use Rattle.classic_extractor.specs.declared.state.Extractor.{Extractor}

-- outside a frame, after F0, and in the body
abbrev pub outside : Progress
outside = record { phase = Outside; sequence = 0; held = 0 }

abbrev pub begun : Progress
begun = record { phase = PacketId; sequence = 0; held = 0 }

abbrev pub body : ℕ → ℕ → Progress
body sequence held = record { phase = Body; sequence = sequence; held = held }

-- the phases after the sequence byte
abbrev pub sequence_read : Phase → Bool
sequence_read Outside = false
sequence_read PacketId = false
sequence_read ErrorId = false
sequence_read Sequence = false
sequence_read Body = true
sequence_read Escaped = true

-- what is not read yet is 0
abbrev pub lawful_before : ℕ → ℕ → Bool
lawful_before sequence held = eqb sequence 0 && eqb held 0

-- a sequence that is no mark, and at most limit + 2 bytes held
abbrev pub lawful_after : ℕ → ℕ → ℕ → Bool
lawful_after limit sequence held = not (is_mark sequence) && leb held (limit + 2)

-- lawful progress for a limit (docs/FORMATS.md)
unfoldable pub lawful : ℕ → Progress → Bool
lawful limit s = cond (sequence_read s.phase) (lawful_after limit s.sequence s.held) (lawful_before s.sequence s.held)

-- a limit in its range, lawful progress and a buffer of the right size
unfoldable pub ready : ℕ → Progress → ℕ → Bool
ready limit s size = limit_fits limit && (eqb size (limit + 2) && lawful limit s)

-- what storing needs of that: the bytes held fit, and the buffer has its size
pub record Fits (limit : ℕ) (s : Progress) (l : List ℕ) : Type 0 where
  pub room : s.held ≤ limit + 2
  pub size : length l ≡ limit + 2

-- the empty state of a link with a limit: outside a frame
abbrev pub empty : ℕ → Extractor
empty limit = record { limit = limit; progress = outside }

-- an extractor opened: its empty state, or 17
unfoldable pub open_of : ℕ → Told Extractor
open_of limit = table (line 17 (not (limit_fits limit)) ∷ []) refused (given (empty limit))

-- what an opening tells
abbrev pub told_open : Result Extractor BadLimit → Told Extractor
told_open = told_by limit_number
