-- The claims for Classic: the frames of our writer come back, and damage ends at the next F0.
use Rattle.std.specs.Prelude.{ℕ, ◌+◌, ◌<◌, ◌≡◌, ◌≢◌, true, false, List, [], ◌∷◌, ◌++◌, length, get_or, set}
use Rattle.wire.specs.Bytes.{AllBytes}
use Rattle.wire.specs.Limit.{limit_fits}
use Rattle.classic_frame.specs.Mark.{is_mark}
use Rattle.classic_extractor.specs.declared.state.Progress.{Progress}
use Rattle.classic_extractor.specs.State.{outside, lawful}
use Rattle.classic_feed.specs.Feed.{feed_of}
use Rattle.classic_writer.specs.Sending.{FrameToSend, Sendable, sent}
use Rattle.classic_claims.specs.Run.{Call, run_of, Given, handed_by, handed_out}

-- what an extractor has to hand out of a frame
abbrev pub given_of : FrameToSend → Given
given_of m = record { sequence = m.sequence; size = length m.payload; payload = m.payload }

-- ---- the closing part

-- the place of the sequence byte, which the checksum does not cover
abbrev pub sequence_place : ℕ
sequence_place = 3

-- the byte at a place turns into another, and neither is a mark
pub record Turned (bytes : List ℕ) (place new : ℕ) : Type 0 where
  pub inside : place < length bytes
  pub was_plain : is_mark (get_or bytes place 0) ≡ false
  pub is_plain : is_mark new ≡ false
  pub byte : new < 256
  pub other : new ≢ get_or bytes place 0

-- a frame of our writer, whole or with the byte at a place turned into another
pub data ClosingFrame : Type 0 where
  whole : FrameToSend → ClosingFrame
  damaged : FrameToSend → ℕ → ℕ → ClosingFrame

-- the bytes of the closing part
unfoldable pub bytes_of : ℕ → List ClosingFrame → List ℕ
bytes_of limit [] = []
bytes_of limit (whole m ∷ is) = sent limit m ++ bytes_of limit is
bytes_of limit (damaged m place new ∷ is) = set (sent limit m) place new ++ bytes_of limit is

-- what has to be handed out of it: each whole frame, in order
unfoldable pub undamaged : List ClosingFrame → List Given
undamaged [] = []
undamaged (whole m ∷ is) = given_of m ∷ undamaged is
undamaged (damaged m place new ∷ is) = undamaged is

-- each frame is one that the writer has to take; one that is damaged has bytes for its payload, and the byte that turned is not the sequence byte
abbrev pub Closing : ℕ → List ClosingFrame → Type 0
Closing limit [] = Unit {0}
Closing limit (whole m ∷ is) = Sendable limit m × Closing limit is
Closing limit (damaged m place new ∷ is) =
    Sendable limit m × AllBytes m.payload × (place ≢ sequence_place) × Turned (sent limit m) place new × Closing limit is

-- what an extractor and its buffer have to be: of a limit in its range, lawful, and of the size that goes with it
pub record LawfulExtractor (limit : ℕ) (s : Progress) (buffer : List ℕ) : Type 0 where
  pub range : limit_fits limit ≡ true
  pub state : lawful limit s ≡ true
  pub size : length buffer ≡ limit + 2

-- ---- the claims

-- Damage ends: from every lawful state, whatever bytes come before and wherever calls that use all bytes cut them, the frames decided in the
-- closing part are the undamaged ones of it, one each, in order
abbrev pub DamageEnds : Type 0
DamageEnds =
    (limit : ℕ) (s : Progress) (buffer before : List ℕ) (closing : List ClosingFrame) (calls : List Call)
    → LawfulExtractor limit s buffer
    → Closing limit closing
    → (let run = run_of limit calls 0 s buffer (before ++ bytes_of limit closing) in
    run.unused ≡ [] → handed_out (length before) run.events ≡ undamaged closing)

-- A frame returns: one of our writer, given at once to an extractor that is outside, is handed out, and all its bytes are used
abbrev pub FrameReturns : Type 0
FrameReturns =
    (limit : ℕ) (m : FrameToSend) (buffer : List ℕ)
    → Sendable limit m
    → length buffer ≡ limit + 2
    → (let r = feed_of limit outside buffer (sent limit m) in
    (handed_by r.report r.buffer ≡ given_of m ∷ []) × (r.used ≡ length (sent limit m)))
