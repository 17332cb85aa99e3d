-- Captures added to a report one after another, refused ones included. Claims about every list of captures.
use Rattle.std.specs.Prelude.{ℕ, ◌+◌, ◌≤◌, ◌≡◌, Bool, true, false, not, ◌&&◌, length, eqb}
use mathlib.Core.List.{List, [], ◌∷◌, map, Permᴰ}
use Rattle.wire.specs.Told.{given, refused}
use Rattle.wire.specs.declared.stream.Stream.{Stream}
use Rattle.capture_reader.specs.Capture.{ToldAt}
use Rattle.ble_slot.specs.declared.Slot.{Slot}
use Rattle.capture_report.specs.declared.Costs.{Costs}
use Rattle.capture_report.specs.declared.CostReport.{CostReport}
use Rattle.capture_report.specs.Costs.{costs_of, Balanced}
use Rattle.capture_report.specs.Report.{fresh_run, costs_for, empty_report, report_fits, added_of, report_left}
use Rattle.capture_report.specs.Turns.{open_in}

-- ---- one capture

-- Of any packets that a fresh link is given: those left open, by the packets and their answers, are as many as the stream's slots that are
-- open in the row after the last.
abbrev pub LeftOpenIsOpen : Type 0
LeftOpenIsOpen =
    (limit : ℕ) (bytes : List ℕ) (ps : List (List ℕ)) (s : Stream)
    → (costs_of s (fresh_run limit bytes ps).heards).pending ≡ open_in s (fresh_run limit bytes ps).slots

-- A capture that is taken adds as many as are open in the row that it leaves.
abbrev pub OpenIsAdded : Type 0
OpenIsAdded =
    (report : CostReport) (limit : ℕ) (slots : List Slot) (bytes capture : List ℕ) (after : CostReport) (s : Stream)
    → (added_of report limit slots bytes capture).told ≡ given after
    → (costs_for after s).pending ≡ (costs_for report s).pending + open_in s (added_of report limit slots bytes capture).slots

-- ---- a list of captures

-- a capture, with its limit, and the row and the buffer that are lent for it
pub record LentCapture : Type 0 where
  pub limit : ℕ
  pub slots : List Slot
  pub bytes : List ℕ
  pub content : List ℕ

abbrev pub told_of : CostReport → LentCapture → ToldAt CostReport
told_of r c = (added_of r c.limit c.slots c.bytes c.content).told

-- the report after them: one that is refused leaves it
abbrev pub report_after : CostReport → List LentCapture → CostReport
report_after r [] = r
report_after r (c ∷ cs) = report_after (report_left r (told_of r c)) cs

-- From an empty report, over any captures, refused ones included: on each stream the first packets accepted are as many as the
-- transactions finished, replaced, dropped and left open.
abbrev pub ReportsBalance : Type 0
ReportsBalance = (cs : List LentCapture) (s : Stream) → Balanced (costs_for (report_after empty_report cs) s)

-- ---- their order

-- what counts of a capture: its limit, the lent sizes, its bytes
pub record CaptureSizes : Type 0 where
  pub limit : ℕ
  pub count : ℕ
  pub size : ℕ
  pub content : List ℕ

abbrev pub sizes_of : LentCapture → CaptureSizes
sizes_of c = record { limit = c.limit; count = length c.slots; size = length c.bytes; content = c.content }

-- refused by 19
abbrev pub is_over : ToldAt CostReport → Bool
is_over (given r) = false
is_over (refused why) = eqb why.0 19

abbrev pub none_over : CostReport → List LentCapture → Bool
none_over r [] = true
none_over r (c ∷ cs) = not (is_over (told_of r c)) && none_over (report_left r (told_of r c)) cs

-- From any report: where no capture is refused by 19, none is in any other order of them, each with its limit and lent sizes, and the
-- report comes out the same. What is in the lent rows and buffers makes no difference.
abbrev pub OrderIsFree : Type 0
OrderIsFree =
    (r : CostReport) (cs ds : List LentCapture)
    → report_fits r ≡ true
    → Permᴰ (map sizes_of cs) (map sizes_of ds)
    → none_over r cs ≡ true
    → (none_over r ds ≡ true) × (report_after r cs ≡ report_after r ds)

-- ---- what is asked for of the report, and of a sum

-- numbers of 64 bits
abbrev pub InBits : Costs → Type 0
InBits c =
    (c.firsts ≤ 18446744073709551615)
    × (c.finished ≤ 18446744073709551615)
    × (c.replaced ≤ 18446744073709551615)
    × (c.dropped ≤ 18446744073709551615)
    × (c.pending ≤ 18446744073709551615)
    × (c.payload ≤ 18446744073709551615)
    × (c.bytes ≤ 18446744073709551615)

-- and nothing else
abbrev pub FitsAll : Type 0
FitsAll = (r : CostReport) → ((s : Stream) → InBits (costs_for r s)) → report_fits r ≡ true

-- and only then: one number that has more is enough for 19
abbrev pub FitsOnly : Type 0
FitsOnly = (r : CostReport) (s : Stream) → report_fits r ≡ true → InBits (costs_for r s)
