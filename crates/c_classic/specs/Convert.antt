-- Classic: the extractor's state and what its calls answer as rows.
use Rattle.std.specs.Prelude.{ℕ, Bool, cond, ◌&&◌, List, [], ◌∷◌, length, get_or, ltb, eqb}
use Rattle.classic_extractor.specs.declared.state.Phase.{Phase}
use Rattle.classic_extractor.specs.declared.state.Phase.TheVariants.{Outside, PacketId, ErrorId, Sequence, Body, Escaped}
use Rattle.classic_extractor.specs.declared.state.Progress.{Progress}
use Rattle.classic_extractor.specs.declared.state.Extractor.{Extractor}
use Rattle.classic_extractor.specs.Outcome.{Report, skipped, taken, all_used, frame, refused}
use Rattle.c_classic.specs.declared.convert.ClassicAnswer.{ClassicAnswer}

-- ---- the state row: limit, phase, sequence, held

abbrev pub phase_number : Phase → ℕ
phase_number Outside = 0
phase_number PacketId = 1
phase_number ErrorId = 2
phase_number Sequence = 3
phase_number Body = 4
phase_number Escaped = 5

-- the phase of a number up to 5
unfoldable pub phase_of : ℕ → Phase
phase_of n =
    cond (eqb n 0) Outside
    (cond (eqb n 1) PacketId (cond (eqb n 2) ErrorId (cond (eqb n 3) Sequence (cond (eqb n 4) Body Escaped))))

-- numbers that a state can have: a phase up to 5, and a sequence of one byte
unfoldable pub is_extractor : List ℕ → Bool
is_extractor row = eqb (length row) 4 && (ltb (get_or row 1 0) 6 && ltb (get_or row 2 0) 256)

unfoldable pub extractor_of : List ℕ → Extractor
extractor_of row =
    record { limit = get_or row 0 0; progress = record { phase = phase_of (get_or row 1 0); sequence = get_or row 2 0; held = get_or row 3 0 } }

abbrev pub extractor_row : ℕ → Progress → List ℕ
extractor_row limit s = limit ∷ phase_number s.phase ∷ s.sequence ∷ s.held ∷ []

-- ---- the answer

abbrev pub reply : ℕ → ℕ → ℕ → ℕ → ClassicAnswer
reply number outcome sequence n = record { number = number; outcome = outcome; sequence = sequence; length = n }

-- the number that a call returns, then outcome, sequence and length; outcomes: 0 skipped or all used, 1 taken, 2 a frame
abbrev pub reply_of : Report → ClassicAnswer
reply_of skipped = reply 0 0 0 0
reply_of taken = reply 0 1 0 0
reply_of all_used = reply 0 0 0 0
reply_of (frame sequence n) = reply 0 2 sequence n
reply_of (refused n) = reply n 0 0 0

-- outcome, sequence, length
abbrev pub step_row : ClassicAnswer → List ℕ
step_row r = r.outcome ∷ r.sequence ∷ r.length ∷ []

-- outcome, used, sequence, length
abbrev pub feed_row : ℕ → ClassicAnswer → List ℕ
feed_row used r = r.outcome ∷ used ∷ r.sequence ∷ r.length ∷ []
