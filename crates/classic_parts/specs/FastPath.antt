-- The fast path of the writer by parts: payload bytes that are written at once.
use Rattle.std.specs.Prelude.{ℕ, ◌+◌, ◌-◌, ◌≤◌, ◌≡◌, List, length, drop}
use Rattle.std.proofs.lemmas.List.Edits.{sets}
use Rattle.wire.specs.Told.{given}
use Rattle.classic_frame.specs.declared.mark.Kind.TheVariants.{Plain}
use Rattle.classic_parts.specs.declared.state.Stage.TheVariants as stage
use Rattle.classic_parts.specs.declared.state.PartProgress.{PartProgress}
use Rattle.classic_parts.specs.State.{ended}
use Rattle.classic_parts.specs.Fill.{Filled, fill_of}
use Rattle.classic_parts.specs.Writer.{PartWrote, wrote, count}

-- in the payload, with nothing pending
abbrev pub body : ℕ → ℕ → ℕ → ℕ → PartProgress
body sequence total taken sum = record { sequence = sequence; total = total; taken = taken; sum = sum; stage = stage.Payload; pending = Plain }

-- what a call leaves that has taken and written some, and then fills the rest
abbrev pub resumed : List ℕ → ℕ → ℕ → Filled → PartWrote
resumed out taken at f =
    wrote (given (count (taken + f.taken) (at + length f.bytes) (ended f.next))) f.next (sets out at f.bytes)

-- writing bytes i to j at once loses nothing: what is left to be filled gives what was left before
pub record PartOnward (payload : List ℕ) (s : PartProgress) (out : List ℕ) (taken i : ℕ) (s' : PartProgress) (out' : List ℕ) (taken' j : ℕ) : Type 0 where
  pub from : i ≤ j
  pub within : j ≤ length out
  pub offered : taken' ≤ length payload
  pub same : length out' ≡ length out
  pub rest : resumed out' taken' j (fill_of (length out - j) s' (drop taken' payload)) ≡ resumed out taken i (fill_of (length out - i) s (drop taken payload))
