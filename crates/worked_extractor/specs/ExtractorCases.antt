-- The extractor by hand at a limit of 2: one table, and the one statement that each of its rows holds.
use Rattle.std.specs.Prelude.{ℕ, zero, suc, ◌≡◌, drop, replicate}
use mathlib.Core.List.{List, [], ◌∷◌, ◌++◌, Memᴰ}
use Rattle.classic_extractor.specs.declared.state.Progress.{Progress}
use Rattle.classic_extractor.specs.declared.state.Phase.{Phase}
use Rattle.classic_extractor.specs.declared.state.Phase.TheVariants.{Outside, ErrorId, Sequence, Escaped}
use Rattle.classic_extractor.specs.Outcome.{Report, skipped, taken, all_used, frame, refused}
use Rattle.classic_extractor.specs.State.{outside, begun, body}
use Rattle.classic_extractor.specs.Step.{ByteStep, step, byte_step_of}
use Rattle.classic_feed.specs.Feed.{Feed, fed, feed_of}

-- the lent buffer has 4 bytes
abbrev limit : ℕ
limit = 2

-- what is asked of an extractor in a state, over a lent buffer
pub data ExtractorQuestion : Type 0 where
  -- a step with a byte, in a state with another limit
  step_within : ℕ → Progress → List ℕ → ℕ → ExtractorQuestion
  -- a step with a byte
  step_with : Progress → List ℕ → ℕ → ExtractorQuestion
  -- a step with each of some bytes
  step_each : Progress → List ℕ → List ℕ → ExtractorQuestion
  -- a call for many bytes
  feed_with : Progress → List ℕ → List ℕ → ExtractorQuestion
  -- n calls for many bytes, each with all that the ones before left
  feed_each : ℕ → Progress → List ℕ → List ℕ → ExtractorQuestion

-- what each step or call leaves: its report, the number used by a call, the next state and the lent buffer
pub data ExtractorAnswer : Type 0 where
  stepped : List ByteStep → ExtractorAnswer
  called : List Feed → ExtractorAnswer

unfoldable pub steps_of : Progress → List ℕ → List ℕ → List ByteStep
steps_of s l [] = []
steps_of s l (b ∷ bs) = let r = byte_step_of limit s l b in r ∷ steps_of r.next r.buffer bs

unfoldable pub feeds_of : ℕ → Progress → List ℕ → List ℕ → List Feed
feeds_of zero s l bytes = []
feeds_of (suc n) s l bytes = let r = feed_of limit s l bytes in r ∷ feeds_of n r.next r.buffer (drop r.used bytes)

unfoldable pub answer_to : ExtractorQuestion → ExtractorAnswer
answer_to (step_within n s l b) = stepped (byte_step_of n s l b ∷ [])
answer_to (step_with s l b) = stepped (byte_step_of limit s l b ∷ [])
answer_to (step_each s l bytes) = stepped (steps_of s l bytes)
answer_to (feed_with s l bytes) = called (feed_of limit s l bytes ∷ [])
answer_to (feed_each n s l bytes) = called (feeds_of n s l bytes)

-- a row: what is asked, and what comes back
pub record ExtractorCase : Type 0 where
  pub question : ExtractorQuestion
  pub expected : ExtractorAnswer

abbrev case : ExtractorQuestion → ExtractorAnswer → ExtractorCase
case q a = record { question = q; expected = a }

-- a step with a byte in a state leaves a report and the next state, and the buffer as it was
abbrev leaves : Progress → List ℕ → ℕ → Report → Progress → ExtractorCase
leaves s l b r next = case (step_with s l b) (stepped (step r next l ∷ []))

-- inside a frame before its sequence byte is read, and after F2 in its body
abbrev header : Phase → Progress
header p = record { phase = p; sequence = 0; held = 0 }

abbrev escaped : ℕ → ℕ → Progress
escaped sequence held = record { phase = Escaped; sequence = sequence; held = held }

-- a count held outside, and a sequence before it is read: unlawful
abbrev held_outside : Progress
held_outside = record { phase = Outside; sequence = 0; held = 1 }

abbrev numbered_early : Progress
numbered_early = record { phase = Sequence; sequence = 7; held = 0 }

abbrev four : ℕ → ℕ → ℕ → ℕ → List ℕ
four a b c d = a ∷ b ∷ c ∷ d ∷ []

-- a lent buffer, and one that holds 01 02 and their checksum
abbrev lent : List ℕ
lent = four 0xEE 0xEE 0xEE 0xEE

abbrev full : List ℕ
full = four 0x01 0x02 0x00 0x05

-- 257 bytes FF and their checksum
abbrev overflown : List ℕ
overflown = replicate 257 0xFF ++ (0x00 ∷ 0x01 ∷ [])

-- the bytes of docs/FORMATS.md
abbrev twenty : List ℕ
twenty =
    0x00 ∷ 0xF0 ∷ 0x02 ∷ 0x00 ∷ 0x05 ∷ 0xF2 ∷ 0x02 ∷ 0x00 ∷ 0xF2 ∷ 0x00 ∷ 0xF1
    ∷ 0xF0 ∷ 0x02 ∷ 0xF0 ∷ 0x02 ∷ 0x00 ∷ 0x06 ∷ 0x00 ∷ 0x02 ∷ 0xF1
    ∷ []

unfoldable pub cases : List ExtractorCase
cases =
    -- the twenty bytes, one by one
    case (step_each outside lent twenty)
    (stepped
    (step skipped outside lent
    ∷ step taken begun lent
    ∷ step taken (header ErrorId) lent
    ∷ step taken (header Sequence) lent
    ∷ step taken (body 5 0) lent
    ∷ step taken (escaped 5 0) lent
    ∷ step taken (body 5 1) (four 0xF0 0xEE 0xEE 0xEE)
    ∷ step taken (body 5 2) (four 0xF0 0x00 0xEE 0xEE)
    ∷ step taken (escaped 5 2) (four 0xF0 0x00 0xEE 0xEE)
    ∷ step taken (body 5 3) (four 0xF0 0x00 0xF2 0xEE)
    ∷ step (frame 5 1) outside (four 0xF0 0x00 0xF2 0xEE)
    ∷ step taken begun (four 0xF0 0x00 0xF2 0xEE)
    ∷ step taken (header ErrorId) (four 0xF0 0x00 0xF2 0xEE)
    ∷ step (refused 20) begun (four 0xF0 0x00 0xF2 0xEE)
    ∷ step taken (header ErrorId) (four 0xF0 0x00 0xF2 0xEE)
    ∷ step taken (header Sequence) (four 0xF0 0x00 0xF2 0xEE)
    ∷ step taken (body 6 0) (four 0xF0 0x00 0xF2 0xEE)
    ∷ step taken (body 6 1) (four 0x00 0x00 0xF2 0xEE)
    ∷ step taken (body 6 2) (four 0x00 0x02 0xF2 0xEE)
    ∷ step (frame 6 0) outside (four 0x00 0x02 0xF2 0xEE)
    ∷ []))
    -- and by calls for many bytes
    ∷ case (feed_each 4 outside lent twenty)
    (called
    (fed (frame 5 1) 11 outside (four 0xF0 0x00 0xF2 0xEE)
    ∷ fed (refused 20) 3 begun (four 0xF0 0x00 0xF2 0xEE)
    ∷ fed (frame 6 0) 6 outside (four 0x00 0x02 0xF2 0xEE)
    ∷ fed all_used 0 outside (four 0x00 0x02 0xF2 0xEE)
    ∷ []))
    -- 1: a sequence that is a mark, more held than there is room for, numbers that are not read yet, a buffer of another size
    ∷ leaves (body 0xF0 1) lent 0x00 (refused 1) (body 0xF0 1)
    ∷ leaves (escaped 0xF2 1) lent 0x00 (refused 1) (escaped 0xF2 1)
    ∷ leaves (body 7 5) lent 0xF1 (refused 1) (body 7 5)
    ∷ leaves held_outside lent 0xF0 (refused 1) held_outside
    ∷ leaves numbered_early lent 0x07 (refused 1) numbered_early
    ∷ leaves outside (0xEE ∷ lent) 0xF0 (refused 1) outside
    ∷ leaves outside (drop 1 lent) 0xF0 (refused 1) outside
    -- .. and a call uses no byte
    ∷ case (feed_with (body 0xF1 1) lent twenty) (called (fed (refused 1) 0 (body 0xF1 1) lent ∷ []))
    -- outside every byte but F0 is skipped: a packet id too
    ∷ leaves outside lent 0x02 skipped outside
    ∷ leaves outside lent 0xF1 skipped outside
    ∷ leaves outside lent 0xF2 skipped outside
    -- 20: F0 in the header (not 22), after F2 (not 23) and in a full body (not 24) begins a frame
    ∷ leaves begun lent 0xF0 (refused 20) begun
    ∷ leaves (header Sequence) lent 0xF0 (refused 20) begun
    ∷ leaves (escaped 7 1) lent 0xF0 (refused 20) begun
    ∷ leaves (body 7 4) full 0xF0 (refused 20) begun
    -- 23: after F2, F1 with a byte stored (not 21), F2, and a byte that is no code, in a full body too (not 24)
    ∷ leaves (escaped 7 1) lent 0xF1 (refused 23) outside
    ∷ leaves (escaped 7 1) lent 0xF2 (refused 23) outside
    ∷ leaves (escaped 7 1) lent 0x01 (refused 23) outside
    ∷ leaves (escaped 7 4) full 0x04 (refused 23) outside
    -- 21: F1 in the header (not 22), and with less than two bytes stored (not 25)
    ∷ leaves begun lent 0xF1 (refused 21) outside
    ∷ leaves (header ErrorId) lent 0xF1 (refused 21) outside
    ∷ leaves (header Sequence) lent 0xF1 (refused 21) outside
    ∷ leaves (body 7 0) lent 0xF1 (refused 21) outside
    ∷ leaves (body 7 1) lent 0xF1 (refused 21) outside
    -- 22: another packet id, another error id, and F2 in the header (not 23)
    ∷ leaves begun lent 0x00 (refused 22) outside
    ∷ leaves (header ErrorId) lent 0x02 (refused 22) outside
    ∷ leaves begun lent 0xF2 (refused 22) outside
    ∷ leaves (header ErrorId) lent 0xF2 (refused 22) outside
    ∷ leaves (header Sequence) lent 0xF2 (refused 22) outside
    -- 24: a fifth byte to store, plain or by its code; F2 stores none and is taken, and so is a fourth byte
    ∷ leaves (body 7 4) full 0x06 (refused 24) outside
    ∷ leaves (escaped 7 4) full 0x03 (refused 24) outside
    ∷ leaves (body 7 4) full 0xF2 taken (escaped 7 4)
    ∷ case (step_with (escaped 7 3) lent 0x03) (stepped (step taken (body 7 4) (four 0xEE 0xEE 0xEE 0xF1) ∷ []))
    -- 25: a checksum with its bytes exchanged
    ∷ leaves (body 7 4) (four 0x01 0x02 0x05 0x00) 0xF1 (refused 25) outside
    -- a sum of 65,537 is 1
    ∷ case (step_within 257 (body 7 259) overflown 0xF1) (stepped (step (frame 7 257) outside overflown ∷ []))
    -- F1 in a full body ends the frame; a call stops after the byte that decides
    ∷ case (feed_with (body 7 4) full (0xF1 ∷ 0xF0 ∷ [])) (called (fed (frame 7 2) 1 outside full ∷ []))
    ∷ []

-- every row of the table holds
abbrev pub ExtractorCases : Type 0
ExtractorCases = (c : ExtractorCase) → Memᴰ c cases → answer_to c.question ≡ c.expected
