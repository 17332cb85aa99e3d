-- The premises of the claims from the other side: each follows from the facts of docs/FORMATS.md, written out, so none of them asks for more.
use Rattle.std.specs.Prelude.{ℕ, zero, suc, ◌+◌, ◌≤◌, ◌<◌, ◌≡◌, ◌≢◌, List, [], ◌∷◌, map, length, get_or}
use Rattle.classic_frame.specs.Frame.{frame_of}
use Rattle.classic_writer.specs.Sending.{FrameToSend, Sendable, NoMark, SendableWhen}
use Rattle.classic_extractor.specs.declared.state.Progress.{Progress}
use Rattle.classic_extractor.specs.declared.state.Phase.{Phase}
use Rattle.classic_extractor.specs.declared.state.Phase.TheVariants.{Outside, PacketId, ErrorId, Sequence, Body, Escaped}
use Rattle.classic_claims.specs.Run.{Call, one, many, run_of}
use Rattle.classic_claims.specs.Recovery.{Turned, ClosingFrame, whole, damaged, Closing, LawfulExtractor}

-- a byte that is no mark, and another one that is none
abbrev pub TurnedWhen : Type 0
TurnedWhen =
    (bytes : List ℕ) (place new : ℕ)
    → place < length bytes
    → NoMark (get_or bytes place 0)
    → new < 256
    → NoMark new
    → new ≢ get_or bytes place 0
    → Turned bytes place new

-- any number of frames in any order, whole or with one byte turned, which may be each but the fourth
pub record ClosingWhen : Type 0 where
  pub none : (limit : ℕ) → Closing limit []
  pub whole-first : (limit : ℕ) (m : FrameToSend) (is : List ClosingFrame) → Sendable limit m → Closing limit is → Closing limit (whole m ∷ is)
  pub damaged-first : (limit : ℕ) (m : FrameToSend) (place new : ℕ) (is : List ClosingFrame)
      → Sendable limit m
      → ((i : ℕ) → i < length m.payload → get_or m.payload i 0 < 256)
      → place ≢ 3
      → Turned (frame_of m.sequence m.payload) place new
      → Closing limit is
      → Closing limit (damaged m place new ∷ is)

-- before the sequence byte is read, a sequence of 0 and nothing held; behind it, a sequence that is no mark and up to limit + 2 bytes held
abbrev pub LawfulIn : Phase → ℕ → ℕ → ℕ → Type 0
LawfulIn Outside limit sequence held = (sequence ≡ 0) × (held ≡ 0)
LawfulIn PacketId limit sequence held = (sequence ≡ 0) × (held ≡ 0)
LawfulIn ErrorId limit sequence held = (sequence ≡ 0) × (held ≡ 0)
LawfulIn Sequence limit sequence held = (sequence ≡ 0) × (held ≡ 0)
LawfulIn Body limit sequence held = NoMark sequence × (held ≤ limit + 2)
LawfulIn Escaped limit sequence held = NoMark sequence × (held ≤ limit + 2)

-- a limit of 1 to 65,535, a lawful state, a buffer of limit + 2 bytes
abbrev pub StandingWhen : Type 0
StandingWhen =
    (limit : ℕ) (s : Progress) (buffer : List ℕ)
    → 1 ≤ limit
    → limit ≤ 65535
    → s.sequence < 256
    → LawfulIn s.phase limit s.sequence s.held
    → length buffer ≡ limit + 2
    → LawfulExtractor limit s buffer

-- .. and there is no other lawful state
abbrev pub StandingOnly : Type 0
StandingOnly =
    (limit : ℕ) (s : Progress) (buffer : List ℕ)
    → LawfulExtractor limit s buffer
    → (1 ≤ limit) × (limit ≤ 65535) × LawfulIn s.phase limit s.sequence s.held

-- a call that asks for a byte: a step for 0, and a call for n bytes for any other n
abbrev pub asking : ℕ → Call
asking zero = one
asking (suc n) = many (suc n)

-- as many such calls as there are bytes use them all
abbrev pub AllUsedWhen : Type 0
AllUsedWhen =
    (limit : ℕ) (s : Progress) (buffer bytes sizes : List ℕ)
    → LawfulExtractor limit s buffer
    → length bytes ≤ length sizes
    → (run_of limit (map asking sizes) 0 s buffer bytes).unused ≡ []

-- ---- the claim

pub record FactsSuffice : Type 0 where
  pub sendable : SendableWhen
  pub turned : TurnedWhen
  pub closing : ClosingWhen
  pub standing : StandingWhen
  pub standing-only : StandingOnly
  pub used : AllUsedWhen
