-- A capture added, as the code goes about it.
use Rattle.std.specs.Prelude as code
use Rattle.std.specs.Prelude.{ℕ, List, Option, Some, None}
use Rattle.wire.specs.Told.{given, refused, and_then}
use Rattle.capture_reader.specs.Capture as captures
use Rattle.capture_reader.specs.Capture.{ToldAt, told_at, packets_of}
use Rattle.capture_reader.specs.declared.RefusedAt.{RefusedAt}
use Rattle.ble_slot.specs.declared.Slot.{Slot}
use Rattle.ble_receiver.specs.Receiver.{Result, result, PacketLeft, accept_of}
use Rattle.capture_report.specs.declared.CostReport.{CostReport}
use Rattle.capture_report.specs.Costs.{heard}
use Rattle.capture_report.specs.Report.{call_for, CaptureAdded, capture_added}
use Rattle.capture_report.specs.Turns.{report_with, on_top, added_from}
use Rattle.capture_tally.specs.declared.Tally.{Tally}
use Rattle.capture_tally.specs.declared.Refusal.{Refusal}
use Rattle.capture_tally.specs.declared.Refusal.TheVariants.{Limit, Lent, Capture, Sum as TooMuch}

-- the sums, or that one of them would have more than 64 bits
abbrev pub told_sum : Option CostReport → ToldAt CostReport
told_sum None = refused (19, 0)
told_sum (Some r) = given r

-- the sums so far, the row and the buffer
abbrev pub tallied : Tally → List ℕ → CaptureAdded
tallied t bytes = capture_added (told_sum t.sum) t.slots bytes

-- one packet given to the link: what is told, the row and the buffer
unfoldable pub gave_of : ℕ → List Slot → List ℕ → List ℕ → Result
gave_of limit slots bytes p =
    let l : PacketLeft = accept_of limit slots bytes (call_for p) in
    result l.told l.slots l.bytes

-- and counted
unfoldable pub turn_of : ToldAt CostReport → ℕ → List Slot → List ℕ → List ℕ → CaptureAdded
turn_of t limit slots bytes p =
    let l : Result = gave_of limit slots bytes p in
    capture_added (on_top t (report_with (heard p l.told))) l.slots l.bytes

-- all packets of a capture, if they can be read
unfoldable pub passed_of : ToldAt CostReport → ℕ → List Slot → List ℕ → List ℕ → ToldAt CaptureAdded
passed_of t limit slots bytes capture = and_then (packets_of capture) (λ ps. given (added_from t limit slots bytes ps))

-- ---- what the code tells

abbrev pub number_of : Refusal → ℕ
number_of Limit = 17
number_of Lent = 1
number_of (Capture why) = captures.number_of why
number_of TooMuch = 19

abbrev pub told : code.Result CostReport (RefusedAt Refusal) → ToldAt CostReport
told = told_at number_of
