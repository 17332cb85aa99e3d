-- What is left open is open in the row, and a capture that is taken adds it.
use Prim.Native.Nat.{ℕ, ◌+◌}
use mathlib.Core.Path.{◌≡◌, refl, sym, ap, ◌∙◌}
use mathlib.Core.List.{List}
use mathlib.Core.Bool.{Bool, true, false, false≢true}
use lib.ListN.{length}
use Rattle.wire.specs.Told.{given, refused}
use Rattle.wire.specs.declared.stream.Stream.{Stream}
use Rattle.wire.specs.declared.stream.Stream.TheVariants.{Control, Ota, Alexa}
use Rattle.capture_reader.specs.Capture.{ToldAt}
use Rattle.ble_slot.specs.declared.Slot.{Slot}
use Rattle.capture_report.specs.declared.Costs.{Costs}
use Rattle.capture_report.specs.declared.CostReport.{CostReport}
use Rattle.capture_report.specs.Report.{fresh_run, costs_for, report_of, costs_plus, plus, report_fits, taken_of, summed, added_by, added_of}
use Rattle.capture_report.specs.Turns.{open_in}
use Rattle.capture_report.proofs.Runs.{left_open}
use Rattle.capture_report_claims.specs.Captures.{LeftOpenIsOpen, OpenIsAdded}

pub left-open-is-open : LeftOpenIsOpen
left-open-is-open = left_open

open-plus : (a b : Costs) → (costs_plus a b).pending ≡ a.pending + b.pending
unfolding costs_plus
open-plus a b = refl

-- a report and what packets add to it
open-sum : (report : CostReport) (limit : ℕ) (bytes : List ℕ) (ps : List (List ℕ)) (s : Stream)
    → (costs_for (plus report (report_of (fresh_run limit bytes ps).heards)) s).pending
    ≡ (costs_for report s).pending + open_in s (fresh_run limit bytes ps).slots
unfolding report_of
open-sum report limit bytes ps Control =
    open-plus report.control _ ∙ ap (λ (n : ℕ). report.control.pending + n) (left_open limit bytes ps Control)
open-sum report limit bytes ps Ota = open-plus report.ota _ ∙ ap (λ (n : ℕ). report.ota.pending + n) (left_open limit bytes ps Ota)
open-sum report limit bytes ps Alexa =
    open-plus report.alexa _ ∙ ap (λ (n : ℕ). report.alexa.pending + n) (left_open limit bytes ps Alexa)

-- what is given, or another report
abbrev given_or : CostReport → ToldAt CostReport → CostReport
given_or r (given q) = q
given_or r (refused why) = r

abbrev is_given : ToldAt CostReport → Bool
is_given (given q) = true
is_given (refused why) = false

summed-given : (q after : CostReport) (b : Bool) → report_fits q ≡ b → summed q ≡ given after → q ≡ after
summed-given q after true e t = ap (given_or q) (rw e at t)
summed-given q after false e t = absurd (false≢true (ap is_given (rw e at t)))

added-open : (report : CostReport) (limit : ℕ) (slots : List Slot) (bytes : List ℕ) (t : ToldAt (List (List ℕ))) (after : CostReport) (s : Stream)
    → (added_by report limit slots bytes t).told ≡ given after
    → (costs_for after s).pending ≡ (costs_for report s).pending + open_in s (added_by report limit slots bytes t).slots
added-open report limit slots bytes (refused why) after s e = absurd (false≢true (ap is_given e))
added-open report limit slots bytes (given ps) after s e =
    let q : CostReport = plus report (report_of (fresh_run limit bytes ps).heards) in
    ap (λ (r : CostReport). (costs_for r s).pending) (sym (summed-given q after (report_fits q) refl e)) ∙ open-sum report limit bytes ps s

pub open-is-added : OpenIsAdded
unfolding added_of
open-is-added report limit slots bytes capture after s e =
    added-open report limit slots bytes (taken_of limit (length slots) (length bytes) capture) after s e
