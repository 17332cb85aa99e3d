-- Reports are added in any order, and a part of a sum that fits fits.
use Prim.Native.Nat.{ℕ, ◌+◌}
use native.Mathlib.Omega.{arith}
use native.Mathlib.Nat.{add_assoc, add_comm, add-zero}
use mathlib.Core.Path.{◌≡◌, refl, sym, ap, ◌∙◌}
use mathlib.Core.Bool.{Bool, true, false, ◌&&◌, false≢true}
use lib.Dec.{ltb}
use borrow.Author.Tests.{ltb-true, lt-ltb}
use Rattle.capture_report.specs.declared.Costs.{Costs}
use Rattle.capture_report.specs.declared.CostReport.{CostReport}
use Rattle.capture_report.specs.Report.{no_costs, empty_report, costs_plus, plus, past64, costs_fit, report_fits}

costs-comm : (a b : Costs) → costs_plus a b ≡ costs_plus b a
unfolding costs_plus
costs-comm a b =
    rw (
      add_comm a.firsts b.firsts,
      add_comm a.finished b.finished,
      add_comm a.replaced b.replaced,
      add_comm a.dropped b.dropped,
      add_comm a.pending b.pending,
      add_comm a.payload b.payload,
      add_comm a.bytes b.bytes,
    )

costs-assoc : (a b c : Costs) → costs_plus (costs_plus a b) c ≡ costs_plus a (costs_plus b c)
unfolding costs_plus
costs-assoc a b c = simp add_assoc

costs-none : (a : Costs) → costs_plus a no_costs ≡ a
unfolding costs_plus
costs-none a = simp add-zero

plus_comm : (r q : CostReport) → plus r q ≡ plus q r
plus_comm r q = rw (costs-comm r.control q.control, costs-comm r.ota q.ota, costs-comm r.alexa q.alexa)

pub plus_assoc : (r q p : CostReport) → plus (plus r q) p ≡ plus r (plus q p)
plus_assoc r q p =
    rw (costs-assoc r.control q.control p.control, costs-assoc r.ota q.ota p.ota, costs-assoc r.alexa q.alexa p.alexa)

pub plus-empty : (r : CostReport) → plus r empty_report ≡ r
plus-empty r = rw (costs-none r.control, costs-none r.ota, costs-none r.alexa)

pub empty-plus : (r : CostReport) → plus empty_report r ≡ r
empty-plus r = plus_comm empty_report r ∙ plus-empty r

pub plus-swap : (r q p : CostReport) → plus r (plus q p) ≡ plus q (plus r p)
plus-swap r q p = sym (plus_assoc r q p) ∙ ap (λ (x : CostReport). plus x p) (plus_comm r q) ∙ plus_assoc q r p

-- ---- 64 bits

part : (x y m : ℕ) → ltb (x + y) m ≡ true → ltb x m ≡ true
part x y m e =
    let u = ltb-true (x + y) m e in
    lt-ltb x m (omega (arith, u))

and-part : (a b c d : Bool) → (a ≡ true → c ≡ true) → (b ≡ true → d ≡ true) → (a && b) ≡ true → (c && d) ≡ true
and-part true b c d f g e = rw (f refl) (g e)
and-part false b c d f g e = absurd (false≢true e)

costs-part : (a b : Costs) → costs_fit (costs_plus a b) ≡ true → costs_fit a ≡ true
unfolding costs_plus costs_fit
costs-part a b =
    and-part _ _ _ _ (part a.firsts b.firsts past64)
    (and-part _ _ _ _ (part a.finished b.finished past64)
    (and-part _ _ _ _ (part a.replaced b.replaced past64)
    (and-part _ _ _ _ (part a.dropped b.dropped past64)
    (and-part _ _ _ _ (part a.pending b.pending past64)
    (and-part _ _ _ _ (part a.payload b.payload past64) (part a.bytes b.bytes past64))))))

pub plus-part : (r q : CostReport) → report_fits (plus r q) ≡ true → report_fits r ≡ true
plus-part r q =
    and-part _ _ _ _ (costs-part r.control q.control) (and-part _ _ _ _ (costs-part r.ota q.ota) (costs-part r.alexa q.alexa))
