-- Reports balance, over any list of captures; and what is left open is open in the row.
use Prim.Native.Nat.{ℕ}
use native.Mathlib.Omega.{arith}
use mathlib.Core.Path.{refl}
use mathlib.Core.List.{List, [], ◌∷◌}
use mathlib.Core.Bool.{not}
use lib.ListN.{length}
use Rattle.wire.specs.Told.{given, refused, line}
use Rattle.wire.specs.declared.stream.Stream.{Stream}
use Rattle.wire.specs.declared.stream.Stream.TheVariants.{Control, Ota, Alexa}
use Rattle.wire.proofs.Tables.{by-table}
use Rattle.capture_reader.specs.Capture.{ToldAt}
use Rattle.ble_slot.specs.declared.Slot.{Slot}
use Rattle.capture_report.specs.declared.Costs.{Costs}
use Rattle.capture_report.specs.declared.CostReport.{CostReport}
use Rattle.capture_report.specs.Costs.{Balanced}
use Rattle.capture_report.specs.Report.{fresh_run, costs_for, empty_report, report_of, costs_plus, plus, report_fits, taken_of, added_by, added_of, report_left}
use Rattle.capture_report.proofs.Runs.{run-balances}
use Rattle.capture_report_claims.specs.Captures.{LentCapture, told_of, report_after, ReportsBalance}

costs-balance : (a b : Costs) → Balanced a → Balanced b → Balanced (costs_plus a b)
unfolding costs_plus
costs-balance a b p q = omega (arith, p, q)

abbrev AllBalanced : CostReport → Type 0
AllBalanced r = (s : Stream) → Balanced (costs_for r s)

plus-balances : (r q : CostReport) → AllBalanced r → AllBalanced q → AllBalanced (plus r q)
plus-balances r q a b Control = costs-balance r.control q.control (a Control) (b Control)
plus-balances r q a b Ota = costs-balance r.ota q.ota (a Ota) (b Ota)
plus-balances r q a b Alexa = costs-balance r.alexa q.alexa (a Alexa) (b Alexa)

-- ---- one capture

packets-balance : (limit : ℕ) (bytes : List ℕ) (ps : List (List ℕ)) → AllBalanced (report_of (fresh_run limit bytes ps).heards)
unfolding report_of
packets-balance limit bytes ps Control = run-balances limit bytes ps Control
packets-balance limit bytes ps Ota = run-balances limit bytes ps Ota
packets-balance limit bytes ps Alexa = run-balances limit bytes ps Alexa

added-balances : (r : CostReport) (limit : ℕ) (slots : List Slot) (bytes : List ℕ) (t : ToldAt (List (List ℕ))) → AllBalanced r
    → AllBalanced (report_left r (added_by r limit slots bytes t).told)
added-balances r limit slots bytes (refused why) h = h
added-balances r limit slots bytes (given ps) h =
    let q : CostReport = plus r (report_of (fresh_run limit bytes ps).heards) in
    by-table (λ (x : ToldAt CostReport). AllBalanced (report_left r x)) (line 19 (not (report_fits q)) ∷ []) (λ n. refused (n, 0)) (given q) (λ n. h) (λ u.
    plus-balances r (report_of (fresh_run limit bytes ps).heards) h (packets-balance limit bytes ps))

told-balances : (r : CostReport) (c : LentCapture) → AllBalanced r → AllBalanced (report_left r (told_of r c))
unfolding added_of
told-balances r c h =
    added-balances r c.limit c.slots c.bytes (taken_of c.limit (length c.slots) (length c.bytes) c.content) h

-- ---- a list of them

after-balances : (r : CostReport) (cs : List LentCapture) → AllBalanced r → AllBalanced (report_after r cs)
after-balances r [] h = h
after-balances r (c ∷ cs) h = after-balances (report_left r (told_of r c)) cs (told-balances r c h)

empty-balances : AllBalanced empty_report
empty-balances Control = refl
empty-balances Ota = refl
empty-balances Alexa = refl

pub reports-balance : ReportsBalance
reports-balance cs s = after-balances empty_report cs empty-balances s
