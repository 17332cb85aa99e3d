-- What is told of a capture that is added to what the rows name is what the call leaves.
use Prim.Native.Nat.{ℕ}
use mathlib.Core.Path.{◌≡◌, refl}
use mathlib.Core.Bool.{Bool, true, false}
use mathlib.Core.List.{List}
use lib.ListN.{length}
use Rattle.wire.specs.Limit.{limit_fits}
use Rattle.ble_slot.specs.declared.Slot.{Slot}
use Rattle.capture_report.specs.Report.{CaptureAdded, taken_of, added_of}
use Rattle.c_report.specs.declared.calls.AddingTo.{AddingTo}
use Rattle.c_report.specs.Calls.{ReportCalled, report_called, report_sizes_fit, report_add_of, adding_to, RowsAdded, told_rows}

-- what is told, with what is left
abbrev pub called_by : CaptureAdded → RowsAdded → ReportCalled
called_by a r = report_called r.number r.report a.slots a.bytes r.answer

module _ (report : List ℕ) (limit : ℕ) (row : List Slot) (lent capture answer : List ℕ) where
  abbrev done : CaptureAdded
  done = let to : AddingTo = adding_to report limit (length answer) in added_of to.report to.limit row lent capture

  told-by : (b : Bool) → report_sizes_fit report (length answer) ≡ b → called_by done (told_rows report answer done.told) ≡ report_add_of report limit row lent capture answer
  unfolding adding_to told_rows report_add_of added_of taken_of limit_fits
  told-by true e = rw e
  told-by false e = rw e

  pub told-left : called_by done (told_rows report answer done.told) ≡ report_add_of report limit row lent capture answer
  told-left = told-by (report_sizes_fit report (length answer)) refl
