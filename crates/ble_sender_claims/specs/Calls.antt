-- The packets that calls of the writer give for a message, place after place, over one reused output.
use Rattle.std.specs.Prelude.{ℕ, zero, suc, ◌≤◌, ◌≡◌, ◌⊎◌, List, [], ◌∷◌, true, length, take, Option, None, Some}
use Rattle.wire.specs.Limit.{limit_fits}
use Rattle.wire.specs.Told.{Told, given, refused}
use Rattle.ble_sender.specs.declared.writer.Sending.{Sending}
use Rattle.ble_sender.specs.declared.writer.Sent.{Sent}
use Rattle.ble_sender.specs.Writer.{packets_of, room_fits, arguments_fit, written_of}

-- those from the next place on, where there is one
abbrev pub packets_after : (ℕ → List (List ℕ)) → Option ℕ → List (List ℕ)
packets_after later None = []
packets_after later (Some next) = later next

-- what a call told, over the output that it left: the packet, and those of the calls from the next place on
abbrev pub packets_by : List ℕ → (ℕ → List (List ℕ)) → Told Sent → List (List ℕ)
packets_by out later (refused n) = []
packets_by out later (given s) = take s.length out ∷ packets_after later s.next

-- the packets of at most `calls` calls, each at the place that the one before it told, until one tells that it was the last
unfoldable pub calls_from : ℕ → ℕ → Sending → List ℕ → List ℕ → ℕ → List (List ℕ)
calls_from zero limit w m out place = []
calls_from (suc calls) limit w m out place =
    packets_by (written_of limit w m place out).out (calls_from calls limit w m (written_of limit w m place out).out) (written_of limit w m place out).told

-- those of all calls for a message: a call more than it has bytes is always enough
abbrev pub calls_of : ℕ → Sending → List ℕ → List ℕ → List (List ℕ)
calls_of limit w m out = calls_from (suc (length m)) limit w m out 0

-- what the writer takes
pub record SendableMessage (limit : ℕ) (w : Sending) (m out : List ℕ) : Type 0 where
  -- a limit of 1 to 65,535
  pub range : limit_fits limit ≡ true
  -- a room of 20 to 512
  pub room : room_fits w.room ≡ true
  -- stream, id, sequence and message in their ranges
  pub arguments : arguments_fit limit w (length m) ≡ true
  -- an output no smaller than the room
  pub space : w.room ≤ length out

-- The ranges of docs/FORMATS.md, and nothing else: no premise of a claim about the writer's packets asks for more.
abbrev pub TakesAll : Type 0
TakesAll =
    (limit : ℕ) (w : Sending) (m out : List ℕ)
    → 1 ≤ limit
    → limit ≤ 65535
    → 20 ≤ w.room
    → w.room ≤ 512
    → (w.stream ≡ 0) ⊎ (w.stream ≡ 2) ⊎ (w.stream ≡ 6)
    → w.id ≤ 15
    → w.sequence ≤ 15
    → length m ≤ limit
    → w.room ≤ length out
    → SendableMessage limit w m out

-- the calls give all packets of the message, in order, whatever the output held; there is at least one
abbrev pub CallsGiveAll : Type 0
CallsGiveAll =
    (limit : ℕ) (w : Sending) (m out : List ℕ) → SendableMessage limit w m out
    → (calls_of limit w m out ≡ packets_of w m) × (1 ≤ length (calls_of limit w m out))
