-- A capture packet by packet: sums that stay at 19, and at the end the open slots counted.
use Rattle.std.specs.Prelude.{ℕ, ◌≡◌, List, [], ◌∷◌, Bool, true, cond, ◌&&◌, length}
use Rattle.wire.specs.Bytes.{bit}
use Rattle.wire.specs.Those.{those}
use Rattle.wire.specs.Told.{given, and_then}
use Rattle.wire.specs.Stream.{stream_number}
use Rattle.wire.specs.declared.stream.Stream.{Stream}
use Rattle.wire.specs.declared.stream.Stream.TheVariants.{Control, Ota, Alexa}
use Rattle.ble_packet.specs.Header.{is_of}
use Rattle.capture_reader.specs.Capture.{ToldAt}
use Rattle.ble_slot.specs.declared.Slot.{Slot}
use Rattle.ble_slot.specs.Slot.{opens, idles, lane_of}
use Rattle.ble_receiver.specs.Receiver.{PacketLeft, accept_of}
use Rattle.capture_report.specs.declared.Costs.{Costs}
use Rattle.capture_report.specs.declared.CostReport.{CostReport}
use Rattle.capture_report.specs.Costs.{Heard, heard, finishes, replaces, drops, payload_in, begins}
use Rattle.capture_report.specs.Report.{call_for, plus, summed, CaptureAdded, capture_added, added_by}

-- what a packet of a size adds to a stream's numbers, if it is that stream's: all but what is left open
abbrev pub costs_by : Bool → Bool → Bool → Bool → Bool → ℕ → ℕ → Costs
costs_by mine begun finished replaced dropped payload size =
    record {
      firsts = bit (mine && begun);
      finished = bit (mine && finished);
      replaced = bit (mine && replaced);
      dropped = bit (mine && dropped);
      pending = 0;
      payload = cond (mine && finished) payload 0;
      bytes = cond (mine && true) size 0;
    }

abbrev pub costs_with : Stream → Heard → Costs
costs_with s h =
    costs_by (is_of (stream_number s) h.packet) (begins h) (finishes h.told) (replaces h.told) (drops h.told) (payload_in h.told) (length h.packet)

unfoldable pub report_with : Heard → CostReport
report_with h = record { control = costs_with Control h; ota = costs_with Ota h; alexa = costs_with Alexa h }

-- how many of a stream's slots are open
abbrev pub open_in : Stream → List Slot → ℕ
open_in s slots = length (those opens (lane_of s slots))

-- n transactions left open, and nothing else
abbrev pub open_costs : ℕ → Costs
open_costs n = record { firsts = 0; finished = 0; replaced = 0; dropped = 0; pending = n; payload = 0; bytes = 0 }

-- what the open slots of a row add
unfoldable pub open_report : List Slot → CostReport
open_report slots =
    record { control = open_costs (open_in Control slots); ota = open_costs (open_in Ota slots); alexa = open_costs (open_in Alexa slots) }

-- the sums so far, or 19, and more
abbrev pub on_top : ToldAt CostReport → CostReport → ToldAt CostReport
on_top t more = and_then t (λ r. summed (plus r more))

-- from a row and a buffer on, with the sums so far
unfoldable pub added_from : ToldAt CostReport → ℕ → List Slot → List ℕ → List (List ℕ) → CaptureAdded
added_from t limit slots bytes [] = capture_added (on_top t (open_report slots)) slots bytes
added_from t limit slots bytes (p ∷ ps) =
    let l : PacketLeft = accept_of limit slots bytes (call_for p) in
    added_from (on_top t (report_with (heard p l.told))) limit l.slots l.bytes ps

-- that is what the definition says, of any limit and buffer
abbrev pub TurnsAdd : Type 0
TurnsAdd =
    (report : CostReport) (limit : ℕ) (slots : List Slot) (bytes : List ℕ) (ps : List (List ℕ))
    → added_by report limit slots bytes (given ps) ≡ added_from (given report) limit idles bytes ps
