-- Captures: what their calls answer as rows.
use Rattle.std.specs.Prelude.{ℕ, cond, List, [], ◌∷◌, ◌++◌, replicate, Option, Some, None, unwrap_or, Result, Ok, Err}
use Rattle.wire.specs.Told.{given, refused}
use Rattle.wire.specs.Bytes.{bit}
use Rattle.capture_reader.specs.Capture.{ToldAt}
use Rattle.capture_stream.specs.declared.SenderSlot.{SenderSlot}
use Rattle.capture_stream.specs.declared.SenderSlot.TheVariants.{Idle, Open}
use Rattle.capture_judge.specs.declared.State.{State}
use Rattle.capture_judge.specs.Step.{all_idle}
use Rattle.capture_judge.specs.Capture.{Answer, lawful, open·ended, unlawful}
use Rattle.capture_next.specs.declared.ExpectedHead.{ExpectedHead}
use Rattle.capture_next.specs.declared.NextPacket.{NextPacket}
use Rattle.capture_why.specs.Why.{total_read}
use Rattle.capture_why.specs.declared.ReadNumbers.{ReadNumbers}
use Rattle.capture_why.specs.declared.Came.{Came}
use Rattle.capture_why.specs.declared.Expected.{Expected}
use Rattle.capture_why.specs.declared.Expected.TheVariants.{Nothing, AnyFirst, This}
use Rattle.capture_why.specs.declared.Explained.{Explained}
use Rattle.capture_why.specs.declared.Explained.TheVariants.{Ended, Stopped}
use Rattle.c_judge.specs.declared.convert.SlotNumbers.{SlotNumbers}
use Rattle.c_judge.specs.declared.convert.StateNumbers.{StateNumbers}
use Rattle.c_judge.specs.declared.convert.ExpectedNumbers.{ExpectedNumbers}

-- outcome (1 lawful, 2 open, 3 unlawful; 0 where it is refused), and a place: of the packet's length, or the refusal's
abbrev pub judged_row : ToldAt Answer → List ℕ
judged_row (given lawful) = 1 ∷ 0 ∷ []
judged_row (given open·ended) = 2 ∷ 0 ∷ []
judged_row (given (unlawful at)) = 3 ∷ at ∷ []
judged_row (refused why) = 0 ∷ why.1 ∷ []

-- ---- why
-- a transaction that is open on a stream: id, bytes still to come, next sequence
abbrev pub slot_numbers : SenderSlot → SlotNumbers
slot_numbers Idle = record { opened = 0; id = 0; left = 0; sequence = 0 }
slot_numbers (Open id left sequence) = record { opened = 1; id = id; left = left; sequence = sequence }

abbrev pub state_numbers : State → StateNumbers
state_numbers s = record { control = slot_numbers s.control; ota = slot_numbers s.ota; alexa = slot_numbers s.alexa }

abbrev pub slot_row : SlotNumbers → List ℕ
slot_row n = n.opened ∷ n.id ∷ n.left ∷ n.sequence ∷ []

abbrev pub state_row : StateNumbers → List ℕ
state_row s = slot_row s.control ++ slot_row s.ota ++ slot_row s.alexa

-- the number of our reader's refusal, or 0
abbrev pub refusal_read : Result ReadNumbers ℕ → ℕ
refusal_read (Ok numbers) = 0
refusal_read (Err n) = n

abbrev pub len_read : Result ReadNumbers ℕ → ℕ
len_read (Ok numbers) = numbers.len
len_read (Err n) = 0

-- what came; first the number by which our reader refuses it
abbrev pub came_row : Came → List ℕ
came_row c =
    refusal_read c.read
    ∷ c.size
    ∷ c.stream
    ∷ c.id
    ∷ c.sequence
    ∷ c.kind
    ∷ bit c.ack
    ∷ bit c.extended
    ∷ unwrap_or (total_read c.read) 0
    ∷ len_read c.read
    ∷ []

abbrev pub any_numbers : ℕ → ExpectedNumbers
any_numbers expected = record { expected = expected; id = 0; sequence = 0; kind = 0; len = 0; extended = 0; last = 0 }

-- the first packet of this total (2), or the next one of what is open (3)
abbrev pub numbers_by : Option ExpectedHead → NextPacket → ExpectedNumbers
numbers_by None n =
    record { expected = 2; id = 0; sequence = 0; kind = n.kind; len = n.len; extended = bit n.extended; last = bit n.last }
numbers_by (Some head) n =
    record {
      expected = 3;
      id = head.id;
      sequence = head.sequence;
      kind = n.kind;
      len = n.len;
      extended = bit n.extended;
      last = bit n.last;
    }

abbrev pub next_numbers : NextPacket → ExpectedNumbers
next_numbers n = numbers_by n.head n

-- what was expected: nothing, a first packet of any message, or just this one
abbrev pub expected_numbers : Expected → ExpectedNumbers
expected_numbers Nothing = any_numbers 0
expected_numbers AnyFirst = any_numbers 1
expected_numbers (This n) = next_numbers n

abbrev pub expected_row : ExpectedNumbers → List ℕ
expected_row n = n.expected ∷ n.id ∷ n.sequence ∷ n.kind ∷ n.len ∷ n.extended ∷ n.last ∷ []

-- the judge's row, what is open at the end or before the packet that decides, what came and what was expected
abbrev pub why_row : ToldAt Explained → List ℕ
why_row (refused why) = 0 ∷ why.1 ∷ replicate 29 0
why_row (given (Ended s)) = cond (all_idle s) 1 2 ∷ 0 ∷ state_row (state_numbers s) ++ replicate 17 0
why_row (given (Stopped at s came expected)) = 3 ∷ at ∷ state_row (state_numbers s) ++ came_row came ++ expected_row (expected_numbers expected)
