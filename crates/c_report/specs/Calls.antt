-- A capture added to a report, for C.
use Rattle.std.specs.Prelude.{ℕ, Bool, cond, ◌&&◌, List, length, eqb}
use Rattle.capture_reader.specs.Capture.{ToldAt, number_in}
use Rattle.ble_slot.specs.declared.Slot.{Slot}
use Rattle.capture_report.specs.declared.CostReport.{CostReport}
use Rattle.capture_report.specs.Report.{CaptureAdded, added_of}
use Rattle.c_rows.specs.Row.{afterwards}
use Rattle.c_report.specs.declared.calls.AddingTo.{AddingTo}
use Rattle.c_report.specs.Convert.{report_at, report_after, place_row}

-- what a call leaves: the number that it returns, the report's row, the row of slots, the lent buffer and the answer row
pub record ReportCalled : Type 0 where
  pub number : ℕ
  pub report : List ℕ
  pub slots : List Slot
  pub lent : List ℕ
  pub answer : List ℕ

abbrev pub report_called : ℕ → List ℕ → List Slot → List ℕ → List ℕ → ReportCalled
report_called n report slots lent answer = record { number = n; report = report; slots = slots; lent = lent; answer = answer }

-- rows and lent bytes after a capture
abbrev pub add_told : List ℕ → List ℕ → CaptureAdded → ReportCalled
add_told report answer a =
    report_called (number_in a.told) (report_after report a.told) a.slots a.bytes
    (afterwards (number_in a.told) answer (place_row a.told))

-- a report of 21 numbers and an answer row of one
abbrev pub report_sizes_fit : List ℕ → ℕ → Bool
report_sizes_fit report size = eqb (length report) 21 && eqb size 1

unfoldable pub report_add_of : List ℕ → ℕ → List Slot → List ℕ → List ℕ → List ℕ → ReportCalled
report_add_of report limit slots lent capture answer =
    cond (report_sizes_fit report (length answer))
    (add_told report answer (added_of (report_at report) limit slots lent capture))
    (report_called 1 report slots lent answer)

-- ---- the parts of such a call

-- what a capture is added to, for an answer row of a size: rows of other lengths get the limit 0
unfoldable pub adding_to : List ℕ → ℕ → ℕ → AddingTo
adding_to report limit size = record { report = report_at report; limit = cond (report_sizes_fit report size) limit 0 }

-- what is told of a capture: the number, the report's row and the answer row
pub record RowsAdded : Type 0 where
  pub number : ℕ
  pub report : List ℕ
  pub answer : List ℕ

abbrev pub added : ℕ → List ℕ → List ℕ → RowsAdded
added n report answer = record { number = n; report = report; answer = answer }

unfoldable pub told_rows : List ℕ → List ℕ → ToldAt CostReport → RowsAdded
told_rows report answer t =
    cond (report_sizes_fit report (length answer))
    (added (number_in t) (report_after report t) (afterwards (number_in t) answer (place_row t)))
    (added 1 report answer)
