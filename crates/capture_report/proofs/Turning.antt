-- Packet by packet gives what the definition says.
use Prim.Native.Nat.{ℕ, ◌+◌}
use native.Mathlib.Omega.{arith}
use native.Mathlib.Nat.{zero-add}
use mathlib.Core.Path.{◌≡◌, refl, sym, ap, ◌∙◌}
use mathlib.Core.List.{List, [], ◌∷◌}
use mathlib.Core.Bool.{Bool, true, false, ◌&&◌, false≢true}
use lib.ListN.{length}
use Rattle.wire.specs.Told.{given, refused, and_then}
use Rattle.wire.specs.declared.stream.Stream.{Stream}
use Rattle.wire.specs.declared.stream.Stream.TheVariants.{Control, Ota, Alexa}
use Rattle.wire.specs.Stream.{stream_number}
use Rattle.ble_packet.specs.Header.{is_of}
use Rattle.capture_reader.specs.Capture.{ToldAt}
use Rattle.ble_slot.specs.declared.Slot.{Slot}
use Rattle.ble_slot.specs.Slot.{idles}
use Rattle.ble_receiver.specs.Receiver.{PacketLeft, accept_of}
use Rattle.capture_report.specs.declared.Costs.{Costs}
use Rattle.capture_report.specs.declared.CostReport.{CostReport}
use Rattle.capture_report.specs.Costs.{Heard, heard, finishes, replaces, drops, payload_in, begins, Followed, followed_in, costs_in, costs_of}
use Rattle.capture_report.specs.Report.{call_for, LinkRun, link_run, fresh_run, no_costs, report_of, costs_plus, plus, report_fits, summed, CaptureAdded, capture_added}
use Rattle.capture_report.specs.Turns.{costs_with, report_with, open_costs, open_report, on_top, added_from, TurnsAdd}
use Rattle.capture_report.proofs.Counting.{sum-cons}
use Rattle.capture_report.proofs.Runs.{count-cons, left_open}
use Rattle.capture_report.proofs.Adding.{plus_assoc, empty-plus, plus-part}

-- ---- sums that stay at 19

over_by : (r more : CostReport) (b : Bool) → report_fits (plus r more) ≡ b → report_fits r ≡ false
    → and_then (summed r) (λ x. summed (plus x more)) ≡ summed (plus r more)
over_by r more true d e = absurd (false≢true (sym e ∙ plus-part r more d))
over_by r more false d e = rw (e, d)

summed-on : (r more : CostReport) (b : Bool) → report_fits r ≡ b → and_then (summed r) (λ x. summed (plus x more)) ≡ summed (plus r more)
summed-on r more true e = rw e
summed-on r more false e = over_by r more (report_fits (plus r more)) refl e

on-top : (t : ToldAt CostReport) (a b : CostReport) → on_top (on_top t a) b ≡ on_top t (plus a b)
on-top (refused why) a b = refl
on-top (given r) a b = summed-on (plus r a) b (report_fits (plus r a)) refl ∙ ap summed (plus_assoc r a b)

-- ---- the numbers of a stream, all but what is left open

sum_costs : Stream → List Heard → Costs
sum_costs s [] = no_costs
sum_costs s (h ∷ hs) = costs_plus (costs_with s h) (sum_costs s hs)

sum_report : List Heard → CostReport
sum_report hs = record { control = sum_costs Control hs; ota = sum_costs Ota hs; alexa = sum_costs Alexa hs }

record SixAre (c d : Costs) : Type 0 where
  firsts-are : c.firsts ≡ d.firsts
  finished-are : c.finished ≡ d.finished
  replaced-are : c.replaced ≡ d.replaced
  dropped-are : c.dropped ≡ d.dropped
  payload-is : c.payload ≡ d.payload
  bytes-are : c.bytes ≡ d.bytes
  none_open : d.pending ≡ 0

six : (s : Stream) (hs : List Heard) → SixAre (costs_in s (followed_in hs)) (sum_costs s hs)
unfolding sum_costs costs_plus
six s [] = record { firsts-are = refl; finished-are = refl; replaced-are = refl; dropped-are = refl; payload-is = refl; bytes-are = refl; none_open = refl }
six s (h ∷ hs) =
    let e = six s hs in
    let m : Followed = record { it = h; later = hs } in
    record {
      firsts-are = count-cons s (λ f. begins f.it) h hs ∙ ap (λ (n : ℕ). (costs_with s h).firsts + n) e.firsts-are;
      finished-are = count-cons s (λ f. finishes f.it.told) h hs ∙ ap (λ (n : ℕ). (costs_with s h).finished + n) e.finished-are;
      replaced-are = count-cons s (λ f. replaces f.it.told) h hs ∙ ap (λ (n : ℕ). (costs_with s h).replaced + n) e.replaced-are;
      dropped-are = count-cons s (λ f. drops f.it.told) h hs ∙ ap (λ (n : ℕ). (costs_with s h).dropped + n) e.dropped-are;
      payload-is =
          sum-cons (λ (f : Followed). payload_in f.it.told) (λ (f : Followed). is_of (stream_number s) f.it.packet && finishes f.it.told) m (followed_in hs)
          ∙ ap (λ (n : ℕ). (costs_with s h).payload + n) e.payload-is;
      bytes-are =
          sum-cons (λ (f : Followed). length f.it.packet) (λ (f : Followed). is_of (stream_number s) f.it.packet && true) m (followed_in hs)
          ∙ ap (λ (n : ℕ). (costs_with s h).bytes + n) e.bytes-are;
      none_open = zero-add (sum_costs s hs).pending ∙ e.none_open;
    }

costs : ℕ → ℕ → ℕ → ℕ → ℕ → ℕ → ℕ → Costs
costs a b c d e f g = record { firsts = a; finished = b; replaced = c; dropped = d; pending = e; payload = f; bytes = g }

same-costs : (c d : Costs) → c.firsts ≡ d.firsts → c.finished ≡ d.finished → c.replaced ≡ d.replaced → c.dropped ≡ d.dropped → c.pending ≡ d.pending
    → c.payload ≡ d.payload → c.bytes ≡ d.bytes → c ≡ d
unfolding costs
same-costs c d e1 e2 e3 e4 e5 e6 e7 =
    ap (λ (n : ℕ). costs n c.finished c.replaced c.dropped c.pending c.payload c.bytes) e1
    ∙ ap (λ (n : ℕ). costs d.firsts n c.replaced c.dropped c.pending c.payload c.bytes) e2
    ∙ ap (λ (n : ℕ). costs d.firsts d.finished n c.dropped c.pending c.payload c.bytes) e3
    ∙ ap (λ (n : ℕ). costs d.firsts d.finished d.replaced n c.pending c.payload c.bytes) e4
    ∙ ap (λ (n : ℕ). costs d.firsts d.finished d.replaced d.dropped n c.payload c.bytes) e5
    ∙ ap (λ (n : ℕ). costs d.firsts d.finished d.replaced d.dropped d.pending n c.bytes) e6
    ∙ ap (λ (n : ℕ). costs d.firsts d.finished d.replaced d.dropped d.pending d.payload n) e7

costs-are : (s : Stream) (hs : List Heard) (n : ℕ) → (costs_of s hs).pending ≡ n → costs_of s hs ≡ costs_plus (sum_costs s hs) (open_costs n)
unfolding costs_of costs_plus
costs-are s hs n e =
    let x = six s hs in
    same-costs (costs_in s (followed_in hs)) (costs_plus (sum_costs s hs) (open_costs n))
    (omega (arith, x.firsts-are)) (omega (arith, x.finished-are)) (omega (arith, x.replaced-are)) (omega (arith, x.dropped-are)) (omega (arith, e, x.none_open))
    (omega (arith, x.payload-is)) (omega (arith, x.bytes-are))

-- ---- a whole capture

report-is : (limit : ℕ) (bytes : List ℕ) (ps : List (List ℕ))
    → report_of (fresh_run limit bytes ps).heards ≡ plus (sum_report (fresh_run limit bytes ps).heards) (open_report (fresh_run limit bytes ps).slots)
unfolding report_of open_report sum_report
report-is limit bytes ps =
    rw (
      costs-are Control (fresh_run limit bytes ps).heards _ (left_open limit bytes ps Control),
      costs-are Ota (fresh_run limit bytes ps).heards _ (left_open limit bytes ps Ota),
      costs-are Alexa (fresh_run limit bytes ps).heards _ (left_open limit bytes ps Alexa),
    )

-- with the sums so far, and what a run adds to them
abbrev run_added : ToldAt CostReport → LinkRun → CaptureAdded
run_added t r = capture_added (on_top t (plus (sum_report r.heards) (open_report r.slots))) r.slots r.bytes

none-heard : (r : CostReport) → plus (sum_report []) r ≡ r
unfolding sum_report sum_costs
none-heard r = empty-plus r

turn-sum : (t : ToldAt CostReport) (h : Heard) (hs : List Heard) (o : CostReport)
    → on_top (on_top t (report_with h)) (plus (sum_report hs) o) ≡ on_top t (plus (sum_report (h ∷ hs)) o)
unfolding sum_report sum_costs report_with
turn-sum t h hs o = on-top t (report_with h) (plus (sum_report hs) o) ∙ ap (on_top t) (sym (plus_assoc (report_with h) (sum_report hs) o))

from_is : (t : ToldAt CostReport) (limit : ℕ) (slots : List Slot) (bytes : List ℕ) (ps : List (List ℕ))
    → added_from t limit slots bytes ps ≡ run_added t (link_run limit slots bytes ps)
unfolding added_from link_run
from_is t limit slots bytes [] = ap (λ (q : CostReport). capture_added (on_top t q) slots bytes) (sym (none-heard (open_report slots)))
from_is t limit slots bytes (p ∷ ps) =
    let l : PacketLeft = accept_of limit slots bytes (call_for p) in
    let r : LinkRun = link_run limit l.slots l.bytes ps in
    from_is (on_top t (report_with (heard p l.told))) limit l.slots l.bytes ps
    ∙ ap (λ (x : ToldAt CostReport). capture_added x r.slots r.bytes) (turn-sum t (heard p l.told) r.heards (open_report r.slots))

pub turns-add : TurnsAdd
turns-add report limit slots bytes ps =
    ap (λ (q : CostReport). capture_added (summed (plus report q)) (fresh_run limit bytes ps).slots (fresh_run limit bytes ps).bytes) (report-is limit bytes ps)
    ∙ sym (from_is (given report) limit idles bytes ps)
