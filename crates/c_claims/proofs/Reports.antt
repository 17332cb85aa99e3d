-- A report's call under refusal 1.
use Prim.Native.Nat.{ℕ}
use native.Mathlib.Omega.{arith}
use mathlib.Core.Path.{◌≡◌, refl}
use mathlib.Core.Bool.{Bool, true, false, cond}
use mathlib.Core.List.{List}
use lib.ListN.{length}
use Rattle.wire.specs.Told.{given, refused}
use Rattle.capture_reader.specs.Capture.{ToldAt, number_in}
use Rattle.ble_slot.specs.declared.Slot.{Slot}
use Rattle.capture_report.specs.declared.CostReport.{CostReport}
use Rattle.capture_report.specs.Report.{fresh_run, plus, report_of, report_fits, summed, taken_of, added_by, added_of}
use Rattle.c_report.specs.Convert.{report_at}
use Rattle.c_report.specs.Calls.{report_called, add_told, report_sizes_fit, report_add_of}
use Rattle.c_claims.specs.OneLeavesAll.{KeepsReport}

-- sums are never refused by 1
sums-not-one : (r : CostReport) (fits : Bool) → report_fits r ≡ fits → number_in (summed r) ≡ 1 → ⊥
sums-not-one r true f e = omega (arith, rw f at e)
sums-not-one r false f e = omega (arith, rw f at e)

module _ (limit : ℕ) (slots : List Slot) (report lent capture answer : List ℕ) where
  added-keeps : (t : ToldAt (List (List ℕ))) → KeepsReport report slots lent answer (add_told report answer (added_by (report_at report) limit slots lent t))
  added-keeps (refused why) e = rw e
  added-keeps (given ps) e =
      let sum : CostReport = plus (report_at report) (report_of (fresh_run limit lent ps).heards) in
      absurd (sums-not-one sum (report_fits sum) refl e)

  fit-keeps : (fits : Bool) → KeepsReport report slots lent answer
      (cond fits (add_told report answer (added_by (report_at report) limit slots lent (taken_of limit (length slots) (length lent) capture))) (report_called 1 report slots lent answer))
  fit-keeps true e = added-keeps (taken_of limit (length slots) (length lent) capture) e
  fit-keeps false e = refl

  pub report-keeps : KeepsReport report slots lent answer (report_add_of report limit slots lent capture answer)
  unfolding report_add_of added_of
  report-keeps e = fit-keeps (report_sizes_fit report (length answer)) e
