-- What one message costs, as the writer sends it.
use Rattle.std.specs.Prelude.{ℕ, ◌*◌, ◌≡◌, List, length}
use Rattle.wire.specs.Stream.{stream_of}
use Rattle.ble_sender.specs.declared.writer.Sending.{Sending}
use Rattle.ble_sender_claims.specs.Calls.{calls_of, SendableMessage}
use Rattle.capture_report.specs.declared.Costs.{Costs}
use Rattle.capture_report.specs.Costs.{costs_of}
use Rattle.capture_report.specs.Report.{fresh_run}

-- one first packet, one transaction finished, and this many payload bytes
pub record CostsOne (payload : ℕ) (c : Costs) : Type 0 where
  pub one-first : c.firsts ≡ 1
  pub one-finished : c.finished ≡ 1
  pub none-replaced : c.replaced ≡ 0
  pub none_dropped : c.dropped ≡ 0
  pub none-pending : c.pending ≡ 0
  pub all-payload : c.payload ≡ payload

-- For every limit and every message that the writer takes: its packets, given to a fresh link of that limit, cost just this on its stream.
abbrev pub MessageCosts : Type 0
MessageCosts =
    (limit : ℕ) (bytes : List ℕ) (w : Sending) (m out : List ℕ)
    → length bytes ≡ 12 * limit
    → SendableMessage limit w m out
    → CostsOne (length m) (costs_of (stream_of w.stream) (fresh_run limit bytes (calls_of limit w m out)).heards)
