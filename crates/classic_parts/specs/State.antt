-- The state of a frame that is written by parts: its link's limit, which is the largest payload, and its progress.
use Rattle.std.specs.Prelude.{ℕ, ◌-◌, Bool, true, false, not, ◌&&◌, ◌||◌, leb, ltb}
use Rattle.wire.specs.Limit.{limit_fits}
use Rattle.classic_frame.specs.declared.mark.Kind.TheVariants.{Plain}
use Rattle.classic_frame.specs.Mark.{is_mark, is_mark_kind}
use Rattle.classic_parts.specs.declared.state.Stage.{Stage}
use Rattle.classic_parts.specs.declared.state.Stage.TheVariants as stage
use Rattle.classic_parts.specs.declared.state.PartProgress.{PartProgress}
use Rattle.classic_parts.specs.declared.state.PartWriter.{PartWriter}

-- before the first byte of a frame: nothing is taken, and the checksum of nothing is 2
abbrev pub start_of : ℕ → ℕ → PartProgress
start_of sequence total = record { sequence = sequence; total = total; taken = 0; sum = 2; stage = stage.Start; pending = Plain }

-- .. for a link with a limit
abbrev pub beginning : ℕ → ℕ → ℕ → PartWriter
beginning limit sequence total = record { limit = limit; progress = start_of sequence total }

-- a sequence that is a mark, or a total above the limit
abbrev pub bad_start : ℕ → ℕ → ℕ → Bool
bad_start limit sequence total = is_mark sequence || ltb limit total

-- a lawful state has neither, a limit in its range, and no more taken than told
unfoldable pub lawful : ℕ → PartProgress → Bool
lawful limit s = limit_fits limit && (not (bad_start limit s.sequence s.total) && leb s.taken s.total)

-- the payload bytes still missing
abbrev pub missing : PartProgress → ℕ
missing s = s.total - s.taken

abbrev pub is_payload : Stage → Bool
is_payload stage.Start = false
is_payload stage.PacketId = false
is_payload stage.ErrorId = false
is_payload stage.Sequence = false
is_payload stage.Payload = true
is_payload stage.Low = false
is_payload stage.End = false
is_payload stage.Done = false

abbrev pub is_done : Stage → Bool
is_done stage.Start = false
is_done stage.PacketId = false
is_done stage.ErrorId = false
is_done stage.Sequence = false
is_done stage.Payload = false
is_done stage.Low = false
is_done stage.End = false
is_done stage.Done = true

-- the next byte is the payload's, or the first of the checksum
abbrev pub in_payload : PartProgress → Bool
in_payload s = is_payload s.stage && not (is_mark_kind s.pending)

-- all of the frame is written
abbrev pub ended : PartProgress → Bool
ended s = is_done s.stage && not (is_mark_kind s.pending)
