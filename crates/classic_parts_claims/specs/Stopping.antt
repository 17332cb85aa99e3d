-- The claim that says why a call stops.
use Rattle.std.specs.Prelude.{ℕ, ◌+◌, ◌≤◌, ◌<◌, ◌≡◌, true, false, List, length}
use Rattle.wire.specs.Told.{given}
use Rattle.wire.specs.Limit.{limit_fits}
use Rattle.classic_frame.specs.Mark.{is_mark}
use Rattle.classic_parts.specs.declared.state.PartProgress.{PartProgress}
use Rattle.classic_parts.specs.State.{in_payload, ended}
use Rattle.classic_parts.specs.declared.writer.PartCount.{PartCount}
use Rattle.classic_parts.specs.Writer.{part_of}

-- what a call has to take: a lawful state, no more payload than is missing, and an output of one byte or more
pub record Offering (limit : ℕ) (s : PartProgress) (offered out : List ℕ) : Type 0 where
  pub range : limit_fits limit ≡ true
  pub unmarked : is_mark s.sequence ≡ false
  pub fits : s.total ≤ limit
  pub missing : s.taken + length offered ≤ s.total
  pub lends : 1 ≤ length out

-- the output is full; the frame has ended; or all that was offered is taken, and the next byte is the first of a payload byte
pub data Stops (offered out : List ℕ) (c : PartCount) (next : PartProgress) : Type 0 where
  full : c.written ≡ length out → Stops offered out c next
  over : c.ended ≡ true → Stops offered out c next
  wants : c.taken ≡ length offered → in_payload next ≡ true → next.taken < next.total → Stops offered out c next

pub record Stopped (limit : ℕ) (s : PartProgress) (offered out : List ℕ) : Type 0 where
  pub count : PartCount
  pub told : (part_of limit s offered out).told ≡ given count
  -- the end is told exactly where it is reached
  pub honest : count.ended ≡ ended (part_of limit s offered out).next
  pub why : Stops offered out count (part_of limit s offered out).next

-- Parts stop: a call fills its output unless the frame ends or it needs a payload byte that is not offered
abbrev pub PartsStop : Type 0
PartsStop = (limit : ℕ) (s : PartProgress) (offered out : List ℕ) → Offering limit s offered out → Stopped limit s offered out
