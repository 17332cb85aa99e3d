-- The claim that the outputs of calls one after another, joined, are the whole writer's frame.
use Rattle.std.specs.Prelude.{ℕ, ◌+◌, ◌≤◌, ◌≡◌, true, cond, List, [], ◌∷◌, length, take, ltb}
use Rattle.wire.specs.Told.{given}
use Rattle.classic_frame.specs.Mark.{kind_of}
use Rattle.classic_frame.specs.Frame.{escaped_by, header_of, frame_of}
use Rattle.classic_writer.specs.Sending.{FrameToSend, Sendable, sent}
use Rattle.classic_parts.specs.State.{beginning, ended}
use Rattle.classic_parts.specs.Writer.{begin_of}
use Rattle.classic_parts_claims.specs.Run.{PartCall, PartRun, run_of, fruitful}

-- of payload bytes whose first one's output begins at a place: how many have their first output byte among the first n
unfoldable pub firsts_among : ℕ → ℕ → List ℕ → ℕ
firsts_among n place [] = 0
firsts_among n place (b ∷ bs) = cond (ltb place n) 1 0 + firsts_among n (place + length (escaped_by (kind_of b) b)) bs

-- of a frame's payload bytes, those whose first output byte is among the first n bytes of the frame
abbrev pub begun_in : ℕ → ℕ → List ℕ → ℕ
begun_in n sequence payload = firsts_among n (length (header_of sequence)) payload

-- ---- the claim

-- a frame, the calls that write it and what they wrote
pub record Joins (frame : List ℕ) (m : FrameToSend) (calls : List PartCall) (run : PartRun) : Type 0 where
  -- a beginning of the frame, and all of it exactly when it has ended
  pub begins : run.bytes ≡ take (length run.bytes) frame
  pub whole : ended run.next ≡ true → run.bytes ≡ frame
  pub over : run.bytes ≡ frame → ended run.next ≡ true
  -- as many payload bytes are taken as have their first output byte among those written
  pub taken : run.taken ≡ begun_in (length run.bytes) m.sequence m.payload
  -- as many fruitful calls as the frame has bytes end it
  pub ends : length frame ≤ fruitful calls → ended run.next ≡ true

-- Parts join: a frame in range is begun, and however the calls after it cut payload and output, refused ones among them, they write the
-- frame that the whole writer writes
abbrev pub PartsJoin : Type 0
PartsJoin =
    (limit : ℕ) (m : FrameToSend) (calls : List PartCall)
    → Sendable limit m
    → (let s = beginning limit m.sequence (length m.payload) in
    (begin_of limit m.sequence (length m.payload) ≡ given s)
    × (sent limit m ≡ frame_of m.sequence m.payload)
    × Joins (sent limit m) m calls (run_of s.limit calls s.progress m.payload))
