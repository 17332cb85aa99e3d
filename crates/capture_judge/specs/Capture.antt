-- A capture judged: its packets, one after another.
use Rattle.std.specs.Prelude.{ℕ, ◌+◌, List, [], ◌∷◌, cond, not, length, Result}
use Rattle.wire.specs.Limit.{limit_fits}
use Rattle.wire.specs.Told.{given, refused, and_then, line, table}
use Rattle.capture_reader.specs.Capture as captures
use Rattle.capture_reader.specs.Capture.{width, ToldAt, told_at, packets_of}
use Rattle.capture_reader.specs.declared.RefusedAt.{RefusedAt}
use Rattle.ble_sender.specs.Writer.{room_fits}
use Rattle.capture_judge.specs.declared.capture.Refusal.{Refusal}
use Rattle.capture_judge.specs.declared.capture.Refusal.TheVariants.{Long, Room, Limit, Capture}
use Rattle.capture_judge.specs.declared.capture.SenderVerdict.{SenderVerdict}
use Rattle.capture_judge.specs.declared.capture.SenderVerdict.TheVariants.{Lawful as IsLawful, Open as IsOpen, Unlawful as IsUnlawful}
use Rattle.capture_judge.specs.declared.capture.Judgement.{Judgement}
use Rattle.capture_judge.specs.declared.capture.Judgement.TheVariants.{Going, Stopped}
use Rattle.capture_judge.specs.Step.{idle, all_idle, step_of, after}

-- ---- the packets, one after another

-- one packet, whose length stands at a place: the state after it, or that nothing after it could be lawful
abbrev pub gone_on : ℕ → ℕ → ℕ → Judgement → List ℕ → Judgement
gone_on room limit at (Going s) p = after (step_of room limit s p) (Stopped at s) Going
gone_on room limit at (Stopped place s) p = Stopped place s

unfoldable pub verdict_from : ℕ → ℕ → ℕ → Judgement → List (List ℕ) → Judgement
verdict_from room limit at v [] = v
verdict_from room limit at v (p ∷ ps) = verdict_from room limit (at + width + length p) (gone_on room limit at v p) ps

-- the first packet's length follows the version byte
abbrev pub verdict_of : ℕ → ℕ → List (List ℕ) → Judgement
verdict_of room limit ps = verdict_from room limit 1 (Going idle) ps

-- the capture's own refusals, then its packets
unfoldable pub walked_of : ℕ → ℕ → List ℕ → ToldAt Judgement
walked_of room limit bytes = and_then (packets_of bytes) (λ ps. given (verdict_of room limit ps))

-- 13, 17, then those
unfoldable pub traced_of : ℕ → ℕ → List ℕ → ToldAt Judgement
traced_of room limit bytes =
    table (line 13 (not (room_fits room)) ∷ line 17 (not (limit_fits limit)) ∷ []) (λ n. refused (n, 0)) (walked_of room limit bytes)

-- ---- the answer

-- yes; or a transaction is open at the end; or the place of the length of the first packet after which nothing could be lawful
pub data Answer : Type 0 where
  lawful : Answer
  open·ended : Answer
  unlawful : ℕ → Answer

abbrev pub answer_in : Judgement → Answer
answer_in (Going s) = cond (all_idle s) lawful open·ended
answer_in (Stopped place s) = unlawful place

abbrev pub answer_of : ToldAt Judgement → ToldAt Answer
answer_of t = and_then t (λ v. given (answer_in v))

unfoldable pub judged_of : ℕ → ℕ → List ℕ → ToldAt Answer
judged_of room limit bytes = answer_of (traced_of room limit bytes)

-- ---- what the code tells

abbrev pub number_of : Refusal → ℕ
number_of Long = 1
number_of Room = 13
number_of Limit = 17
number_of (Capture why) = captures.number_of why

abbrev pub trace_told : Result Judgement (RefusedAt Refusal) → ToldAt Judgement
trace_told = told_at number_of

abbrev pub answer_told : SenderVerdict → Answer
answer_told IsLawful = lawful
answer_told IsOpen = open·ended
answer_told (IsUnlawful at) = unlawful at

abbrev pub told : Result SenderVerdict (RefusedAt Refusal) → ToldAt Answer
told r = and_then (told_at number_of r) (λ verdict. given (answer_told verdict))
