-- Five captures in two orders by computation, and two whose order counts, since one is refused by 19.
use Rattle.std.specs.Prelude.{ℕ, ◌≡◌, true, false, replicate}
use mathlib.Core.List.{List, [], ◌∷◌, ◌++◌, map, Permᴰ}
use Rattle.capture_reader.specs.Captured.{captured}
use Rattle.ble_slot.specs.declared.Slot.{Slot}
use Rattle.ble_slot.specs.Slot.{idles}
use Rattle.capture_report.specs.declared.CostReport.{CostReport}
use Rattle.capture_report.specs.Report.{no_costs, report_fits}
use Rattle.capture_report_claims.specs.Captures.{LentCapture, report_after, sizes_of, none_over, OrderIsFree}
use Rattle.capture_report_claims.specs.Worked.{costs, report, three, reaches, mixed, two_ids, odd, odd_row, odd_bytes}

abbrev lent : ℕ → List Slot → List ℕ → List ℕ → LentCapture
lent limit slots bytes content = record { limit = limit; slots = slots; bytes = bytes; content = content }

-- ---- none is refused by 19

-- eleven slots, and a capture that is cut short
abbrev pub short : LentCapture
short = lent 2 (replicate 11 odd) odd_bytes (captured mixed)

abbrev pub cut : LentCapture
cut = lent 2 odd_row odd_bytes (captured (three ∷ []) ++ (0x00 ∷ []))

-- one capture comes twice; at limit 1 a total of 2 is refused
abbrev pub in_order : List LentCapture
in_order = lent 2 idles odd_bytes (captured mixed) ∷ lent 2 odd_row odd_bytes (captured mixed) ∷ short ∷ cut ∷ lent 1 odd_row (replicate 12 0xEE) (captured two_ids) ∷ []

-- other slots and other bytes are lent
abbrev pub turned : List LentCapture
turned = lent 2 odd_row (replicate 24 0) (captured mixed) ∷ lent 1 idles (replicate 12 0) (captured two_ids) ∷ short ∷ lent 2 idles (replicate 24 0) (captured mixed) ∷ cut ∷ []

-- a report that is not empty: the sums grow up to 64 bits
abbrev pub start : CostReport
start = report (costs 0 0 0 0 0 0 18446744073709551526) (costs 1 2 3 4 5 6 7) no_costs

abbrev pub ending : CostReport
ending = report (costs 6 0 2 2 2 0 18446744073709551615) (costs 4 5 3 4 5 9 28) (costs 0 0 0 0 0 0 12)

-- ---- one is refused by 19

abbrev pub near : CostReport
near = report (costs 0 0 0 0 0 0 18446744073709551605) no_costs no_costs

-- seven bytes fit, and four fit, but not both
abbrev pub seven : LentCapture
seven = lent 2 odd_row odd_bytes (captured (three ∷ []))

abbrev pub four : LentCapture
four = lent 2 odd_row odd_bytes (captured (reaches ∷ []))

-- the claim with a weaker premise
abbrev pub OrderAlwaysFree : Type 0
OrderAlwaysFree =
    (r : CostReport) (cs ds : List LentCapture)
    → report_fits r ≡ true
    → Permᴰ (map sizes_of cs) (map sizes_of ds)
    → report_after r cs ≡ report_after r ds

-- Three captures of five are taken, in either order the report is this, and the claim says that it is one. Where one is refused by 19, the
-- order counts, and so the claim asks for that.
pub record TwoOrders : Type 0 where
  pub fits : report_fits start ≡ true
  pub order : Permᴰ (map sizes_of in_order) (map sizes_of turned)
  pub none : none_over start in_order ≡ true
  pub after : report_after start in_order ≡ ending
  pub after-turned : report_after start turned ≡ ending
  pub claimed : OrderIsFree → (none_over start turned ≡ true) × (report_after start in_order ≡ report_after start turned)
  -- the second is refused by 19, and leaves the report as it stood
  pub over : none_over near (seven ∷ four ∷ []) ≡ false
  pub kept : report_after near (seven ∷ four ∷ []) ≡ report (costs 1 0 0 0 1 0 18446744073709551612) no_costs no_costs
  pub needed : OrderAlwaysFree → ⊥
