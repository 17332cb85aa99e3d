-- Calls with every byte and state written out, at a limit of 8: each refusal, and a frame of one mark that goes out in pieces.
use Rattle.std.specs.Prelude.{ℕ, ◌≡◌, true, false, List, [], ◌∷◌, replicate}
use Rattle.wire.specs.Told.{Told, given, refused}
use Rattle.classic_frame.specs.declared.mark.Kind.{Kind}
use Rattle.classic_frame.specs.declared.mark.Kind.TheVariants.{Start, Escape, Plain}
use Rattle.classic_writer.specs.Sending.{FrameToSend, Sendable, sent}
use Rattle.classic_parts.specs.declared.state.Stage.{Stage}
use Rattle.classic_parts.specs.declared.state.Stage.TheVariants as stage
use Rattle.classic_parts.specs.declared.state.PartProgress.{PartProgress}
use Rattle.classic_parts.specs.declared.writer.PartCount.{PartCount}
use Rattle.classic_parts.specs.Writer.{count, wrote, begin_of, part_of}
use Rattle.classic_parts_claims.specs.Run.{PartCall, part, beyond, PartRun, run_of}

abbrev limit : ℕ
limit = 8

abbrev state : ℕ → ℕ → ℕ → ℕ → Stage → Kind → PartProgress
state sequence total taken sum at k = record { sequence = sequence; total = total; taken = taken; sum = sum; stage = at; pending = k }

-- an output before a call
abbrev lent : ℕ → List ℕ
lent n = replicate n 0xEE

-- a call: its state, what is offered and lent; what it tells, the state afterwards and the output
pub record PartRow : Type 0 where
  pub before : PartProgress
  pub offered : List ℕ
  pub out : ℕ
  pub told : Told PartCount
  pub next : PartProgress
  pub after : List ℕ

abbrev row : PartProgress → List ℕ → ℕ → Told PartCount → PartProgress → List ℕ → PartRow
row before offered out told next after = record { before = before; offered = offered; out = out; told = told; next = next; after = after }

abbrev pub Holds : List PartRow → Type 0
Holds [] = Unit {0}
Holds (r ∷ rs) = (part_of limit r.before r.offered (lent r.out) ≡ wrote r.told r.next r.after) × Holds rs

-- ---- a frame of one byte F0 with sequence 5, begun, then written by eight calls

-- at its start; after three bytes; before the payload byte; F2 of it is out; its code is out; the end
abbrev s₀ : PartProgress
s₀ = state 5 1 0 2 stage.Start Plain

abbrev s₁ : PartProgress
s₁ = state 5 1 0 2 stage.Sequence Plain

abbrev s₂ : PartProgress
s₂ = state 5 1 0 2 stage.Payload Plain

abbrev s₃ : PartProgress
s₃ = state 5 1 1 0xF2 stage.Payload Start

abbrev s₄ : PartProgress
s₄ = state 5 1 1 0xF2 stage.Payload Plain

abbrev s₅ : PartProgress
s₅ = state 5 1 1 0xF2 stage.Done Plain

abbrev pub frame : List PartRow
frame =
    row s₀ [] 3 (given (count 0 3 false)) s₁ (0xF0 ∷ 0x02 ∷ 0x00 ∷ [])
    -- the sequence byte, and then a byte is needed
    ∷ row s₁ [] 4 (given (count 0 1 false)) s₂ (0x05 ∷ 0xEE ∷ 0xEE ∷ 0xEE ∷ [])
    -- it is taken with F2
    ∷ row s₂ (0xF0 ∷ []) 1 (given (count 1 1 false)) s₃ (0xF2 ∷ [])
    -- its code needs none
    ∷ row s₃ [] 1 (given (count 0 1 false)) s₄ (0x02 ∷ [])
    ∷ row s₄ (0x00 ∷ []) 1 (refused 26) s₄ (0xEE ∷ [])
    ∷ row s₄ [] 0 (refused 14) s₄ []
    ∷ row s₄ [] 5 (given (count 0 4 true)) s₅ (0x00 ∷ 0xF2 ∷ 0x00 ∷ 0xF1 ∷ 0xEE ∷ [])
    -- the end: nothing more, and refusals as before
    ∷ row s₅ [] 2 (given (count 0 0 true)) s₅ (0xEE ∷ 0xEE ∷ [])
    ∷ row s₅ (0x00 ∷ []) 0 (refused 26) s₅ []
    ∷ row s₅ [] 0 (refused 14) s₅ []
    ∷ []

-- ---- refusal 1, and states that no frame comes to but that are lawful

abbrev pub states : List PartRow
states =
    -- each of the three facts, before 26 and 14
    row (state 0xF1 1 0 2 stage.Start Plain) (0 ∷ 0 ∷ []) 0 (refused 1) (state 0xF1 1 0 2 stage.Start Plain) []
    ∷ row (state 5 9 0 2 stage.Start Plain) [] 1 (refused 1) (state 5 9 0 2 stage.Start Plain) (0xEE ∷ [])
    ∷ row (state 5 1 2 2 stage.Start Plain) [] 1 (refused 1) (state 5 1 2 2 stage.Start Plain) (0xEE ∷ [])
    -- 26 before 14
    ∷ row s₀ (0 ∷ 0 ∷ []) 0 (refused 26) s₀ []
    -- as much as the limit, all offered at once
    ∷ row (state 5 8 7 2 stage.Payload Plain) (1 ∷ []) 3 (given (count 1 3 false)) (state 5 8 8 3 stage.End Plain) (0x01 ∷ 0x00 ∷ 0x03 ∷ [])
    -- a code that no byte asked for, and the end before all is taken
    ∷ row (state 5 1 0 2 stage.Start Escape) [] 2 (given (count 0 2 false)) (state 5 1 0 2 stage.PacketId Plain) (0x00 ∷ 0xF0 ∷ [])
    ∷ row (state 5 1 0 2 stage.Done Escape) (7 ∷ []) 2 (given (count 0 1 true)) (state 5 1 0 2 stage.Done Plain) (0x00 ∷ 0xEE ∷ [])
    ∷ []

-- ---- the first claim on the frame's calls

abbrev sending : FrameToSend
sending = record { sequence = 5; payload = 0xF0 ∷ []; out = lent 10 }

-- the calls of the table, with one byte offered at the most and a byte beyond the payload where 26 is due
abbrev calls : List PartCall
calls = part 0 (lent 3) ∷ part 0 (lent 4) ∷ part 1 (lent 1) ∷ part 0 (lent 1) ∷ beyond 0 [] (lent 1) ∷ part 0 [] ∷ part 0 (lent 5) ∷ part 0 (lent 2) ∷ []

-- one byte at a time
abbrev ones : List PartCall
ones = replicate 10 (part 1 (lent 1))

abbrev run : List PartCall → PartRun
run cs = run_of limit cs s₀ (0xF0 ∷ [])

abbrev bytes : List ℕ
bytes = 0xF0 ∷ 0x02 ∷ 0x00 ∷ 0x05 ∷ 0xF2 ∷ 0x02 ∷ 0x00 ∷ 0xF2 ∷ 0x00 ∷ 0xF1 ∷ []

-- ---- the claim

pub record PartsExample : Type 0 where
  pub begun : begin_of limit 5 8 ≡ given (record { limit = limit; progress = state 5 8 0 2 stage.Start Plain })
  pub limit_of_none : begin_of 0 0xF2 1 ≡ refused 17
  pub limit_above_all : begin_of 65536 5 1 ≡ refused 17
  pub mark_as_sequence : begin_of limit 0xF2 1 ≡ refused 15
  pub total_above_limit : begin_of limit 5 9 ≡ refused 15
  pub unlawful_limit : part_of 0 s₀ [] (lent 1) ≡ wrote (refused 1) s₀ (lent 1)
  pub frame : Holds frame
  pub states : Holds states
  pub premises : Sendable limit sending
  pub whole : sent limit sending ≡ bytes
  pub joined : run calls ≡ record { bytes = bytes; taken = 1; next = s₅ }
  pub by_ones : run ones ≡ record { bytes = bytes; taken = 1; next = s₅ }
