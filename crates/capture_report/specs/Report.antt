-- A report over captures, and one capture more: what is told, the lent row and the lent buffer afterwards.
use Rattle.std.specs.Prelude.{ℕ, ◌+◌, ◌*◌, List, [], ◌∷◌, Bool, not, ◌&&◌, length, replicate, eqb, ltb}
use Rattle.wire.specs.Limit.{limit_fits}
use Rattle.wire.specs.Told.{given, refused, Line, line, table}
use Rattle.wire.specs.declared.stream.Stream.{Stream}
use Rattle.wire.specs.declared.stream.Stream.TheVariants.{Control, Ota, Alexa}
use Rattle.ble_packet.specs.Control.{ack_size}
use Rattle.capture_reader.specs.Capture.{ToldAt, packets_of}
use Rattle.ble_slot.specs.declared.Slot.{Slot}
use Rattle.ble_slot.specs.Slot.{idles, slot_count}
use Rattle.ble_receiver.specs.Receiver.{PacketCall, call, PacketLeft, accept_of}
use Rattle.capture_report.specs.declared.Costs.{Costs}
use Rattle.capture_report.specs.declared.CostReport.{CostReport}
use Rattle.capture_report.specs.Costs.{Heard, heard, costs_of}

-- ---- packets given to a link, one after another

-- the answer sequence and the answer buffer are the report's own, so that neither 15 nor 14 comes
abbrev pub call_for : List ℕ → PacketCall
call_for p = call p 0 (replicate ack_size 0)

-- each packet with what was told of it, and the row and the buffer after the last
pub record LinkRun : Type 0 where
  pub heards : List Heard
  pub slots : List Slot
  pub bytes : List ℕ

-- each packet meets the row and the buffer that the one before it left
unfoldable pub link_run : ℕ → List Slot → List ℕ → List (List ℕ) → LinkRun
link_run limit slots bytes [] = record { heards = []; slots = slots; bytes = bytes }
link_run limit slots bytes (p ∷ ps) =
    let l : PacketLeft = accept_of limit slots bytes (call_for p) in
    let r : LinkRun = link_run limit l.slots l.bytes ps in
    record { heards = heard p l.told ∷ r.heards; slots = r.slots; bytes = r.bytes }

-- a fresh link: all slots are idle
abbrev pub fresh_run : ℕ → List ℕ → List (List ℕ) → LinkRun
fresh_run limit bytes ps = link_run limit idles bytes ps

-- ---- a report

abbrev pub costs_for : CostReport → Stream → Costs
costs_for r Control = r.control
costs_for r Ota = r.ota
costs_for r Alexa = r.alexa

abbrev pub no_costs : Costs
no_costs = record { firsts = 0; finished = 0; replaced = 0; dropped = 0; pending = 0; payload = 0; bytes = 0 }

abbrev pub empty_report : CostReport
empty_report = record { control = no_costs; ota = no_costs; alexa = no_costs }

-- what packets cost, on each stream
unfoldable pub report_of : List Heard → CostReport
report_of hs = record { control = costs_of Control hs; ota = costs_of Ota hs; alexa = costs_of Alexa hs }

-- two reports added, number by number
unfoldable pub costs_plus : Costs → Costs → Costs
costs_plus a b =
    record {
      firsts = a.firsts + b.firsts;
      finished = a.finished + b.finished;
      replaced = a.replaced + b.replaced;
      dropped = a.dropped + b.dropped;
      pending = a.pending + b.pending;
      payload = a.payload + b.payload;
      bytes = a.bytes + b.bytes;
    }

abbrev pub plus : CostReport → CostReport → CostReport
plus r q =
    record { control = costs_plus r.control q.control; ota = costs_plus r.ota q.ota; alexa = costs_plus r.alexa q.alexa }

-- the first number that has more than 64 bits
abbrev pub past64 : ℕ
past64 = 18446744073709551616

unfoldable pub costs_fit : Costs → Bool
costs_fit c =
    ltb c.firsts past64
    && (ltb c.finished past64
    && (ltb c.replaced past64
    && (ltb c.dropped past64 && (ltb c.pending past64 && (ltb c.payload past64 && ltb c.bytes past64)))))

abbrev pub report_fits : CostReport → Bool
report_fits r = costs_fit r.control && (costs_fit r.ota && costs_fit r.alexa)

-- ---- a capture added

-- the report with the capture, or a refusal, which leaves the report; and the lent row and buffer
pub record CaptureAdded : Type 0 where
  pub told : ToldAt CostReport
  pub slots : List Slot
  pub bytes : List ℕ

abbrev pub capture_added : ToldAt CostReport → List Slot → List ℕ → CaptureAdded
capture_added t slots bytes = record { told = t; slots = slots; bytes = bytes }

-- 17: the limit; 1: a row of other than twelve slots, or a buffer of other than a part for each. What is in them is not looked at.
abbrev pub lent_lines : ℕ → ℕ → ℕ → List Line
lent_lines limit count size =
    line 17 (not (limit_fits limit)) ∷ line 1 (not (eqb count slot_count && eqb size (slot_count * limit))) ∷ []

-- the packets, or the first refusal: of the limit, of what is lent, of the capture itself
unfoldable pub taken_of : ℕ → ℕ → ℕ → List ℕ → ToldAt (List (List ℕ))
taken_of limit count size capture = table (lent_lines limit count size) (λ n. refused (n, 0)) (packets_of capture)

-- 19: a number that would have more than 64 bits
abbrev pub summed : CostReport → ToldAt CostReport
summed r = table (line 19 (not (report_fits r)) ∷ []) (λ n. refused (n, 0)) (given r)

-- every refusal before 19 leaves the row and the buffer; 19 leaves them as they are after the last packet
abbrev pub added_by : CostReport → ℕ → List Slot → List ℕ → ToldAt (List (List ℕ)) → CaptureAdded
added_by report limit slots bytes (refused why) = capture_added (refused why) slots bytes
added_by report limit slots bytes (given ps) =
    let r : LinkRun = fresh_run limit bytes ps in
    capture_added (summed (plus report (report_of r.heards))) r.slots r.bytes

-- a capture added to a report
unfoldable pub added_of : CostReport → ℕ → List Slot → List ℕ → List ℕ → CaptureAdded
added_of report limit slots bytes capture = added_by report limit slots bytes (taken_of limit (length slots) (length bytes) capture)

-- the report afterwards
abbrev pub report_left : CostReport → ToldAt CostReport → CostReport
report_left r (given q) = q
report_left r (refused why) = r
