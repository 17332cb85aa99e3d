-- That damage ends, with every byte written out, at a limit of 8: other bytes, then a damaged frame between two whole ones, cut in three ways.
use Rattle.std.specs.Prelude.{ℕ, ◌≡◌, List, [], ◌∷◌, ◌++◌, length, replicate}
use Rattle.classic_writer.specs.Sending.{FrameToSend}
use Rattle.classic_extractor.specs.declared.state.Progress.{Progress}
use Rattle.classic_extractor.specs.declared.state.Phase.TheVariants.{Escaped}
use Rattle.classic_claims.specs.Run.{Call, one, many, Run, run_of, Given, handed_out}
use Rattle.classic_claims.specs.Recovery.{ClosingFrame, whole, damaged, bytes_of, undamaged, Closing, LawfulExtractor}

abbrev pub limit : ℕ
limit = 8

-- after F2 in a body
abbrev pub state : Progress
state = record { phase = Escaped; sequence = 1; held = 3 }

abbrev pub buffer : List ℕ
buffer = replicate 10 0xEE

-- no code after F2, an end, and a frame that breaks off after F2
abbrev before : List ℕ
before = 0x41 ∷ 0xF1 ∷ 0xF0 ∷ 0x02 ∷ 0x00 ∷ 0x09 ∷ 0x07 ∷ 0xF2 ∷ []

abbrev to_send : ℕ → List ℕ → FrameToSend
to_send sequence payload = record { sequence = sequence; payload = payload; out = replicate 20 0xEE }

-- in the second frame 02 turns into 03
abbrev pub closing : List ClosingFrame
closing = whole (to_send 5 (0xF0 ∷ 0x41 ∷ [])) ∷ damaged (to_send 6 (0x01 ∷ 0x02 ∷ [])) 5 0x03 ∷ whole (to_send 0xF3 []) ∷ []

-- its bytes
abbrev bytes : List ℕ
bytes =
    0xF0 ∷ 0x02 ∷ 0x00 ∷ 0x05 ∷ 0xF2 ∷ 0x02 ∷ 0x41 ∷ 0x01 ∷ 0x33 ∷ 0xF1
    ∷ 0xF0 ∷ 0x02 ∷ 0x00 ∷ 0x06 ∷ 0x01 ∷ 0x03 ∷ 0x00 ∷ 0x05 ∷ 0xF1
    ∷ 0xF0 ∷ 0x02 ∷ 0x00 ∷ 0xF3 ∷ 0x00 ∷ 0x02 ∷ 0xF1
    ∷ []

-- what has to be handed out
abbrev frames : List Given
frames =
    record { sequence = 5; size = 2; payload = 0xF0 ∷ 0x41 ∷ [] }
    ∷ record { sequence = 0xF3; size = 0; payload = [] }
    ∷ []

abbrev run_by : List Call → Run
run_by calls = run_of limit calls 0 state buffer (before ++ bytes_of limit closing)

-- calls use all bytes, and the frames decided in the closing part are the two
pub record Cut (calls : List Call) : Type 0 where
  pub used : (run_by calls).unused ≡ []
  pub handed : handed_out (length before) (run_by calls).events ≡ frames

-- ---- the claim

pub record DamageExample : Type 0 where
  pub standing : LawfulExtractor limit state buffer
  pub premises : Closing limit closing
  pub written : bytes_of limit closing ≡ bytes
  pub undamaged : undamaged closing ≡ frames
  -- a step for each byte
  pub steps : Cut (replicate 34 one)
  -- each call with all bytes that are left
  pub calls : Cut (replicate 6 (many 34))
  pub mixed : Cut (many 3 ∷ one ∷ many 0 ∷ many 7 ∷ one ∷ one ∷ many 2 ∷ many 34 ∷ many 4 ∷ one ∷ many 1 ∷ many 34 ∷ many 34 ∷ [])
