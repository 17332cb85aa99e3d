-- One output byte of a frame that is written by parts.
use Rattle.std.specs.Prelude.{ℕ, ◌+◌, ◌/◌, ◌%◌, cond, List, [], ◌∷◌, ltb, Option, Some, None}
use Rattle.classic_frame.specs.declared.mark.Kind.{Kind}
use Rattle.classic_frame.specs.declared.mark.Kind.TheVariants.{Start, End, Escape, Plain}
use Rattle.classic_frame.specs.Mark.{start_mark, end_mark, escape_mark, kind_of}
use Rattle.classic_frame.specs.Frame.{packet_id, error_id, start_code, end_code, escape_code}
use Rattle.classic_parts.specs.declared.state.Stage.{Stage}
use Rattle.classic_parts.specs.declared.state.Stage.TheVariants as stage
use Rattle.classic_parts.specs.declared.state.PartProgress.{PartProgress}
use Rattle.classic_parts.specs.declared.byte.Emitted.{Emitted}

-- the first byte of what a byte of payload or checksum becomes; a mark's code is pending after it
abbrev pub first_by : Kind → ℕ → ℕ
first_by Start b = escape_mark
first_by End b = escape_mark
first_by Escape b = escape_mark
first_by Plain b = b

-- the state at a stage, with a code pending or none
abbrev pub goes : PartProgress → Stage → Kind → PartProgress
goes s at k = record { sequence = s.sequence; total = s.total; taken = s.taken; sum = s.sum; stage = at; pending = k }

-- .. with a payload byte taken
abbrev pub took : PartProgress → ℕ → PartProgress
took s b = record { sequence = s.sequence; total = s.total; taken = s.taken + 1; sum = (s.sum + b) % 65536; stage = s.stage; pending = kind_of b }

-- nothing (the frame has ended, or a payload byte is wanted that is not offered), or a byte, the next state and the payload bytes taken
pub data Byte : Type 0 where
  nothing : Byte
  byte : ℕ → PartProgress → ℕ → Byte

-- a mark, a header byte or a code
abbrev pub own : PartProgress → ℕ → Stage → Byte
own s b to = byte b (goes s to Plain) 0

-- a byte of the checksum
abbrev pub closing : PartProgress → ℕ → Stage → Byte
closing s b to = byte (first_by (kind_of b) b) (goes s to (kind_of b)) 0

-- a payload byte: it is taken when its first byte is written
abbrev pub payload_byte : PartProgress → List ℕ → Byte
payload_byte s [] = nothing
payload_byte s (b ∷ bs) = byte (first_by (kind_of b) b) (took s b) 1

-- the payload, and after its last byte the high byte of the checksum
unfoldable pub body_byte : PartProgress → List ℕ → Byte
body_byte s offered = cond (ltb s.taken s.total) (payload_byte s offered) (closing s (s.sum / 256) stage.Low)

abbrev pub stage_byte : Stage → PartProgress → List ℕ → Byte
stage_byte stage.Start s offered = own s start_mark stage.PacketId
stage_byte stage.PacketId s offered = own s packet_id stage.ErrorId
stage_byte stage.ErrorId s offered = own s error_id stage.Sequence
stage_byte stage.Sequence s offered = own s s.sequence stage.Payload
stage_byte stage.Payload s offered = body_byte s offered
stage_byte stage.Low s offered = closing s (s.sum % 256) stage.End
stage_byte stage.End s offered = own s end_mark stage.Done
stage_byte stage.Done s offered = nothing

-- a code that is pending comes first
abbrev pub pending_byte : Kind → PartProgress → List ℕ → Byte
pending_byte Start s offered = own s start_code s.stage
pending_byte End s offered = own s end_code s.stage
pending_byte Escape s offered = own s escape_code s.stage
pending_byte Plain s offered = stage_byte s.stage s offered

-- the next output byte, by the payload bytes that are offered
unfoldable pub byte_of : PartProgress → List ℕ → Byte
byte_of s offered = pending_byte s.pending s offered

abbrev pub told_byte : Option Emitted → Byte
told_byte None = nothing
told_byte (Some e) = byte e.value e.next e.taken
