-- Inputs of the program with every byte written out, and what is told of them; one of them lawful by its transactions.
use Rattle.std.specs.Prelude.{ℕ, zero, suc, ◌≡◌, List, [], ◌∷◌, ◌++◌, map, true, false, replicate}
use Rattle.wire.specs.Bytes.{pair_bytes}
use Rattle.wire.specs.Told.{given, refused}
use Rattle.wire.specs.declared.stream.Stream.{Stream}
use Rattle.wire.specs.declared.stream.Stream.TheVariants.{Control, Ota, Alexa}
use Rattle.capture_reader.specs.Capture.{ToldAt, packets_of}
use Rattle.capture_reader.specs.Captured.{captured}
use Rattle.capture_judge.specs.Capture.{Answer, lawful, open·ended, unlawful, judged_of}
use Rattle.capture_judge.specs.Input.{input_of}
use Rattle.capture_judge_claims.specs.Lawful.{Transaction, LawfulPackets}
use Rattle.capture_judge_claims.specs.Right.{CaptureIsRight}

-- ---- the worked inputs

-- n numbers, from one on
abbrev pub from : ℕ → ℕ → List ℕ
from first zero = []
from first (suc n) = first ∷ from (suc first) n

-- the three packets of 35 bytes at room 20, stream 6, id 1, first sequence 0, ACK wanted (P4 of docs/FORMATS.md)
abbrev pub first : List ℕ
first = 0x61 ∷ 0x00 ∷ 0x00 ∷ 0x00 ∷ 0x23 ∷ 0x0E ∷ from 1 14

abbrev pub second : List ℕ
second = 0x61 ∷ 0x14 ∷ 0x11 ∷ from 15 17

abbrev pub third : List ℕ
third = 0x61 ∷ 0x2A ∷ 0x04 ∷ from 32 4

-- the first packet of 20 bytes on the control stream, and one that follows with a byte too many
abbrev begun : List ℕ
begun = 0x00 ∷ 0x00 ∷ 0x00 ∷ 0x00 ∷ 0x14 ∷ 0x0E ∷ replicate 14 0

abbrev too_long : List ℕ
too_long = 0x00 ∷ 0x18 ∷ 0x07 ∷ replicate 7 0

-- a whole message on the control stream; an ACK; a NACK
abbrev pub message : List ℕ
message = 0x01 ∷ 0x00 ∷ 0x00 ∷ 0x00 ∷ 0x02 ∷ 0x02 ∷ 0x08 ∷ 0x5E ∷ []

abbrev pub ack : List ℕ
ack = 0x01 ∷ 0x0E ∷ 0x00 ∷ 0x02 ∷ 0x01 ∷ 0x00 ∷ []

abbrev pub nack : List ℕ
nack = 0x21 ∷ 0x0C ∷ 0x00 ∷ 0x02 ∷ 0x01 ∷ 0x03 ∷ []

abbrev input : ℕ → ℕ → List (List ℕ) → List ℕ
input room limit ps = pair_bytes room ++ pair_bytes limit ++ captured ps

pub record InputRow : Type 0 where
  pub bytes : List ℕ
  pub told : ToldAt Answer

abbrev row : List ℕ → ToldAt Answer → InputRow
row b t = record { bytes = b; told = t }

abbrev pub rows : List InputRow
rows =
    row (input 20 35 (first ∷ second ∷ third ∷ [])) (given lawful)
    -- the total is above the limit
    ∷ row (input 20 34 (first ∷ second ∷ third ∷ [])) (given (unlawful 1))
    -- at room 21 the first piece has 15 bytes
    ∷ row (input 21 35 (first ∷ second ∷ third ∷ [])) (given (unlawful 1))
    ∷ row (input 20 35 (first ∷ second ∷ [])) (given open·ended)
    ∷ row (input 20 4096 (begun ∷ too_long ∷ [])) (given (unlawful 23))
    -- the flag on a packet that is not the last
    ∷ row (input 20 4096 ((0x00 ∷ 0x02 ∷ 0x00 ∷ 0x00 ∷ 0x14 ∷ 0x0E ∷ replicate 14 0) ∷ [])) (given (unlawful 1))
    -- an extender that need not stand, on a first packet and on one that follows
    ∷ row (input 20 4096 ((0x00 ∷ 0x01 ∷ 0x00 ∷ 0x00 ∷ 0x01 ∷ 0x00 ∷ 0x01 ∷ 0xAA ∷ []) ∷ [])) (given (unlawful 1))
    ∷ row (input 20 4096 ((0x61 ∷ 0x00 ∷ 0x00 ∷ 0x00 ∷ 0x10 ∷ 0x0E ∷ from 0 14) ∷ (0x61 ∷ 0x19 ∷ 0x00 ∷ 0x02 ∷ 0x0E ∷ 0x0F ∷ []) ∷ [])) (given (unlawful 23))
    -- an unknown stream, a packet that the reader refuses, another id, another sequence, a first packet inside a transaction
    ∷ row (input 20 4096 (ack ∷ (0x51 ∷ 0x00 ∷ 0x00 ∷ 0x00 ∷ 0x00 ∷ 0x00 ∷ []) ∷ [])) (given (unlawful 9))
    ∷ row (input 20 4096 (ack ∷ (0x01 ∷ []) ∷ [])) (given (unlawful 9))
    ∷ row (input 20 35 (first ∷ (0x62 ∷ 0x14 ∷ 0x11 ∷ from 15 17) ∷ [])) (given (unlawful 23))
    ∷ row (input 20 35 (first ∷ (0x61 ∷ 0x24 ∷ 0x11 ∷ from 15 17) ∷ [])) (given (unlawful 23))
    ∷ row (input 20 35 (first ∷ first ∷ [])) (given (unlawful 23))
    -- a last packet that is not the last, and the last one as a continuation
    ∷ row (input 20 35 (first ∷ (0x61 ∷ 0x18 ∷ 0x11 ∷ from 15 17) ∷ [])) (given (unlawful 23))
    ∷ row (input 20 35 (first ∷ second ∷ (0x61 ∷ 0x24 ∷ 0x04 ∷ from 32 4) ∷ [])) (given (unlawful 45))
    -- a packet that follows where nothing is open
    ∷ row (input 20 35 (second ∷ [])) (given (unlawful 1))
    -- an ACK of the stream inside its transaction; an empty message with a wish
    ∷ row (input 20 35 (first ∷ (0x61 ∷ 0x0E ∷ 0x00 ∷ 0x02 ∷ 0x01 ∷ 0x00 ∷ []) ∷ second ∷ third ∷ [])) (given lawful)
    ∷ row (input 20 1 ((0x23 ∷ 0xF2 ∷ 0x00 ∷ 0x00 ∷ 0x00 ∷ 0x00 ∷ []) ∷ [])) (given lawful)
    -- the refusals; a room that is refused comes before a limit, a limit before a version, the whole capture before its packets
    ∷ row [] (refused (13, 0))
    ∷ row (0x00 ∷ 0x14 ∷ []) (refused (17, 0))
    ∷ row (0x00 ∷ 0x14 ∷ 0x10 ∷ []) (refused (40, 0))
    ∷ row (0x00 ∷ 0x14 ∷ 0x10 ∷ 0x00 ∷ 0x02 ∷ []) (refused (40, 0))
    ∷ row (0x00 ∷ 0x14 ∷ 0x10 ∷ 0x00 ∷ 0x01 ∷ []) (given lawful)
    ∷ row (input 20 4096 (too_long ∷ []) ++ 0x00 ∷ 0x00 ∷ []) (refused (42, 13))
    ∷ row (input 20 4096 (too_long ∷ []) ++ 0x00 ∷ 0x02 ∷ 0x01 ∷ []) (refused (41, 13))
    ∷ []

-- each row is what is told of its bytes
abbrev pub RowsHold : Type 0
RowsHold = map (λ (r : InputRow). input_of r.bytes) rows ≡ map (λ (r : InputRow). r.told) rows

-- ---- one that is lawful, with something between

abbrev pub mixed : List (List ℕ)
mixed = first ∷ ack ∷ message ∷ second ∷ nack ∷ third ∷ []

-- what was sent on each stream
abbrev pub sent : Stream → List Transaction
sent Control =
    record { how = record { room = 20; stream = 0; id = 1; sequence = 0; ack = false }; payload = 0x08 ∷ 0x5E ∷ []; out = replicate 20 0 } ∷ []
sent Ota = []
sent Alexa = record { how = record { room = 20; stream = 6; id = 1; sequence = 0; ack = true }; payload = from 1 35; out = replicate 20 0 } ∷ []

-- The claim's words hold of it by computation, and the claim says what is computed. A writer that refuses gives no packets: then
-- nothing that holds one of another kind than an ACK is lawful, and this falls.
pub record JudgedByHand : Type 0 where
  pub by_hand : LawfulPackets 20 35 mixed
  pub is-sent : (s : Stream) → by_hand.sent s ≡ sent s
  pub had : packets_of (captured mixed) ≡ given mixed
  pub computed : judged_of 20 35 (captured mixed) ≡ given lawful
  pub claimed : CaptureIsRight → judged_of 20 35 (captured mixed) ≡ given lawful
