-- A frame that the writer has to take, and the bytes that it writes: what the claims above speak of.
use Rattle.std.specs.Prelude.{ℕ, ◌≤◌, ◌<◌, ◌≡◌, ◌≢◌, true, false, List, [], length, take}
use Rattle.wire.specs.Told.{Told, given, refused}
use Rattle.wire.specs.Limit.{limit_fits}
use Rattle.classic_frame.specs.Mark.{is_mark}
use Rattle.classic_frame.specs.Frame.{frame_of}
use Rattle.classic_writer.specs.Writer.{write_of}

-- a call of the writer: its sequence and payload, and the output that is lent to it
pub record FrameToSend : Type 0 where
  pub sequence : ℕ
  pub payload : List ℕ
  pub out : List ℕ

-- what the writer has to take: a limit in its range, a sequence that is no mark, a payload up to the limit, and room for its frame
pub record Sendable (limit : ℕ) (m : FrameToSend) : Type 0 where
  pub range : limit_fits limit ≡ true
  pub unmarked : is_mark m.sequence ≡ false
  pub fits : length m.payload ≤ limit
  pub room : length (frame_of m.sequence m.payload) ≤ length m.out

-- the first bytes of an output, as many as the writer tells
abbrev pub told_bytes : Told ℕ → List ℕ → List ℕ
told_bytes (given n) out = take n out
told_bytes (refused n) out = []

-- the bytes that the writer writes
abbrev pub sent : ℕ → FrameToSend → List ℕ
sent limit m = let w = write_of limit m.sequence m.payload m.out in told_bytes w.told w.out

-- ---- the same from the other side, by the facts of docs/FORMATS.md

abbrev pub NoMark : ℕ → Type 0
NoMark b = (b ≢ 0xF0) × (b ≢ 0xF1) × (b ≢ 0xF2)

-- a limit of 1 to 65,535, a sequence byte that is no mark, a payload of 0 to limit bytes, and an output that is at least as long as their frame
abbrev pub SendableWhen : Type 0
SendableWhen =
    (limit : ℕ) (m : FrameToSend)
    → 1 ≤ limit
    → limit ≤ 65535
    → m.sequence < 256
    → NoMark m.sequence
    → length m.payload ≤ limit
    → length (frame_of m.sequence m.payload) ≤ length m.out
    → Sendable limit m
