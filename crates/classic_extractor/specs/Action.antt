-- What a byte asks for in each phase, before the count held and the buffer are looked at: a table a phase, a line for each kind of byte.
use Rattle.std.specs.Prelude.{ℕ, cond, eqb}
use Rattle.classic_frame.specs.declared.mark.Kind.{Kind}
use Rattle.classic_frame.specs.declared.mark.Kind.TheVariants.{Start, End, Escape, Plain}
use Rattle.classic_frame.specs.Mark.{start_mark, end_mark, escape_mark, kind_of}
use Rattle.classic_frame.specs.Frame.{packet_id, error_id, start_code, end_code, escape_code}
use Rattle.classic_extractor.specs.declared.state.Phase.{Phase}
use Rattle.classic_extractor.specs.declared.state.Phase.TheVariants.{Outside, PacketId, ErrorId, Sequence, Body, Escaped}
use Rattle.classic_extractor.specs.declared.outcome.Refusal.{Refusal}
use Rattle.classic_extractor.specs.declared.outcome.Refusal.TheVariants.{BadEscape, EarlyEnd, BadHeader}

pub data Action : Type 0 where
  Skip Begin Restart Number Finish : Action
  Go : Phase → Action
  Store : ℕ → Action
  Refuse : Refusal → Action

abbrev pub outside_by : Kind → Action
outside_by Start = Begin
outside_by End = Skip
outside_by Escape = Skip
outside_by Plain = Skip

-- a header byte that has to be the one wanted
abbrev pub header_by : Kind → ℕ → Phase → ℕ → Action
header_by Start wanted next b = Restart
header_by End wanted next b = Refuse EarlyEnd
header_by Escape wanted next b = Refuse BadHeader
header_by Plain wanted next b = cond (eqb b wanted) (Go next) (Refuse BadHeader)

abbrev pub sequence_by : Kind → Action
sequence_by Start = Restart
sequence_by End = Refuse EarlyEnd
sequence_by Escape = Refuse BadHeader
sequence_by Plain = Number

abbrev pub body_by : Kind → ℕ → Action
body_by Start b = Restart
body_by End b = Finish
body_by Escape b = Go Escaped
body_by Plain b = Store b

-- the byte that a code after F2 stands for
unfoldable pub code_of : ℕ → Action
code_of b =
    cond (eqb b start_code) (Store start_mark)
    (cond (eqb b end_code) (Store end_mark)
    (cond (eqb b escape_code) (Store escape_mark) (Refuse BadEscape)))

abbrev pub code_by : Kind → ℕ → Action
code_by Start b = Restart
code_by End b = Refuse BadEscape
code_by Escape b = Refuse BadEscape
code_by Plain b = code_of b

abbrev pub action_by : Phase → Kind → ℕ → Action
action_by Outside k b = outside_by k
action_by PacketId k b = header_by k packet_id ErrorId b
action_by ErrorId k b = header_by k error_id Sequence b
action_by Sequence k b = sequence_by k
action_by Body k b = body_by k b
action_by Escaped k b = code_by k b

abbrev pub action_of : Phase → ℕ → Action
action_of phase b = action_by phase (kind_of b) b
