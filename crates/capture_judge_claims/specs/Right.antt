-- The claim that the judge of a capture is right.
use Rattle.std.specs.Prelude.{ℕ, suc, ◌≡◌, ◌↔◌, List, true, take}
use Rattle.wire.specs.Bytes.{AllBytes}
use Rattle.wire.specs.Limit.{limit_fits}
use Rattle.wire.specs.Told.{given}
use Rattle.capture_reader.specs.Capture.{ToldAt, packets_of, place_of}
use Rattle.ble_sender.specs.Writer.{room_fits}
use Rattle.capture_judge.specs.Capture.{Answer, lawful, open·ended, unlawful, judged_of}
use Rattle.capture_judge_claims.specs.Lawful.{LawfulPackets, Viable}

-- at this place stands the length of the first packet after which no continuation could be lawful
pub record FirstUnlawful (room limit : ℕ) (ps : List (List ℕ)) (at : ℕ) : Type 0 where
  pub index : ℕ
  pub viable-before : Viable room limit (take index ps)
  pub not_after : ¬ (Viable room limit (take (suc index) ps))
  pub place_is : at ≡ place_of index ps

-- lawful where the packets are; open where they are not, and a continuation could be; else the place of that packet's length
abbrev pub Right : ℕ → ℕ → List (List ℕ) → ToldAt Answer → Type 0
Right room limit ps told =
    (told ≡ given lawful ↔ LawfulPackets room limit ps)
    × (told ≡ given open·ended ↔ (Viable room limit ps × ¬ (LawfulPackets room limit ps)))
    × ((at : ℕ) → told ≡ given (unlawful at) ↔ FirstUnlawful room limit ps at)

-- Of every capture whose packets can be read, at a room and limit in range.
abbrev pub CaptureIsRight : Type 0
CaptureIsRight =
    (room limit : ℕ) (bytes : List ℕ) (ps : List (List ℕ)) → room_fits room ≡ true → limit_fits limit ≡ true → AllBytes bytes → packets_of bytes ≡ given ps
    → Right room limit ps (judged_of room limit bytes)
