-- The order of captures makes no difference where none is refused by 19: the report is the sum of what each adds.
use Prim.Native.Nat.{ℕ, zero, suc, ◌+◌, ◌≤◌}
use native.Mathlib.Omega.{arith}
use mathlib.Core.Path.{◌≡◌, refl, sym, ap, ◌∙◌}
use mathlib.Core.List.{List, [], ◌∷◌, map, Permᴰ}
use mathlib.Core.Bool.{Bool, true, false, not, false≢true}
use lib.ListN.{length, take, drop, replicate, length-replicate}
use lib.Dec.{eqb, ltb}
use borrow.Author.Tests.{ltb-true, lt-ltb, not-true}
use Rattle.wire.specs.declared.stream.Stream.TheVariants.{Control, Ota, Alexa}
use Rattle.wire.specs.Told.{Told, given, refused, and_then, line, table}
use Rattle.wire.proofs.Tests.{and_left, and_right}
use Rattle.capture_reader.specs.Capture.{width, ToldAt, located, front_lines, front_of, before, packets_from, other_version, packets_of}
use Rattle.ble_slot.specs.declared.Slot.{Slot}
use Rattle.capture_report.specs.declared.Costs.{Costs}
use Rattle.capture_report.specs.declared.CostReport.{CostReport}
use Rattle.capture_report.specs.Report.{fresh_run, empty_report, report_of, plus, past64, costs_fit, report_fits, lent_lines, taken_of, added_by, added_of, report_left}
use Rattle.capture_report.proofs.Reading.{by-numbers, IfRefused}
use Rattle.capture_report.proofs.Adding.{plus_assoc, plus-empty, plus-swap, plus-part}
use Rattle.capture_report_claims.specs.Captures.{LentCapture, told_of, report_after, CaptureSizes, sizes_of, is_over, none_over, OrderIsFree, InBits, FitsAll, FitsOnly}
use Rattle.capture_report_claims.proofs.Contents.{same-report}

-- ---- a refusal before any packet is taken is not 19

abbrev NotOver : ℕ × ℕ → Type 0
NotOver why = eqb why.0 19 ≡ false

before-refused : (p : List ℕ) (t : ToldAt (List (List ℕ))) → IfRefused NotOver t → IfRefused NotOver (before p t)
before-refused p (given ps) h = tt
before-refused p (refused why) h = h

then-refused : (t : ToldAt ℕ) (f : ℕ → ToldAt (List (List ℕ))) → IfRefused NotOver t → ((n : ℕ) → IfRefused NotOver (f n)) → IfRefused NotOver (and_then t f)
then-refused (given n) f h g = g n
then-refused (refused why) f h g = h

located-refused : (at : ℕ) (t : Told ℕ) → IfRefused (λ (n : ℕ). eqb n 19 ≡ false) t → IfRefused NotOver (located at t)
located-refused at (given n) h = tt
located-refused at (refused n) h = h

front-refused : (rest : List ℕ) → IfRefused (λ (n : ℕ). eqb n 19 ≡ false) (front_of rest)
unfolding front_of
front-refused rest =
    by-numbers (IfRefused (λ (n : ℕ). eqb n 19 ≡ false)) (λ (n : ℕ). eqb n 19 ≡ false) (front_lines rest) refused (given _) (refl, (refl, tt)) (λ n q. q) tt

from-refused : (turns at : ℕ) (rest : List ℕ) → IfRefused NotOver (packets_from turns at rest)
unfolding packets_from
from-refused zero at rest = tt
from-refused (suc turns) at [] = tt
from-refused (suc turns) at (b ∷ bs) =
    then-refused (located at (front_of (b ∷ bs))) _ (located-refused at (front_of (b ∷ bs)) (front-refused (b ∷ bs))) (λ n.
    before-refused (take n (drop width (b ∷ bs))) (packets_from turns (at + width + n) (drop (width + n) (b ∷ bs)))
    (from-refused turns (at + width + n) (drop (width + n) (b ∷ bs))))

packets-refused : (capture : List ℕ) → IfRefused NotOver (packets_of capture)
unfolding packets_of
packets-refused capture =
    by-numbers (IfRefused NotOver) (λ (n : ℕ). eqb n 19 ≡ false) (line 40 (other_version capture) ∷ []) (λ n. refused (n, 0))
    (packets_from (length capture) 1 (drop 1 capture)) (refl, tt) (λ n q. q) (from-refused (length capture) 1 (drop 1 capture))

abbrev taken_for : CaptureSizes → ToldAt (List (List ℕ))
taken_for z = taken_of z.limit z.count z.size z.content

taken_refused : (z : CaptureSizes) → IfRefused NotOver (taken_for z)
unfolding taken_of
taken_refused z =
    by-numbers (IfRefused NotOver) (λ (n : ℕ). eqb n 19 ≡ false) (lent_lines z.limit z.count z.size) (λ n. refused (n, 0)) (packets_of z.content)
    (refl, (refl, tt)) (λ n q. q) (packets-refused z.content)

-- ---- what a capture adds

-- nothing where it is refused; what is in the buffer makes no difference
abbrev amount_by : ℕ → ℕ → ToldAt (List (List ℕ)) → CostReport
amount_by limit size (refused why) = empty_report
amount_by limit size (given ps) = report_of (fresh_run limit (replicate size 0) ps).heards

amount_of : CaptureSizes → CostReport
amount_of z = amount_by z.limit z.size (taken_for z)

amounts : List CaptureSizes → CostReport
amounts [] = empty_report
amounts (z ∷ zs) = plus (amount_of z) (amounts zs)

-- the sum q is taken over, or refused by 19
data SumTold (r q : CostReport) (t : ToldAt CostReport) : Type 0 where
  goes : is_over t ≡ false → report_left r t ≡ q → (report_fits r ≡ true → report_fits q ≡ true) → SumTold r q t
  over : is_over t ≡ true → report_fits q ≡ false → SumTold r q t

summed_by : (r q : CostReport) (b : Bool) → report_fits q ≡ b → SumTold r q (table (line 19 (not b) ∷ []) (λ n. refused (n, 0)) (given q))
summed_by r q true e = goes refl refl (λ f. e)
summed_by r q false e = over refl e

added-by : (r : CostReport) (limit : ℕ) (slots : List Slot) (bytes : List ℕ) (t : ToldAt (List (List ℕ))) → IfRefused NotOver t
    → SumTold r (plus r (amount_by limit (length bytes) t)) (added_by r limit slots bytes t).told
added-by r limit slots bytes (refused why) o = goes o (sym (plus-empty r)) (λ u. ap report_fits (plus-empty r) ∙ u)
added-by r limit slots bytes (given ps) o =
    let q : CostReport = plus r (report_of (fresh_run limit bytes ps).heards) in
    rw (same-report limit (replicate (length bytes) 0) bytes ps (length-replicate (length bytes) 0)) (summed_by r q (report_fits q) refl)

told_is : (r : CostReport) (c : LentCapture) → SumTold r (plus r (amount_of (sizes_of c))) (told_of r c)
unfolding added_of amount_of
told_is r c = added-by r c.limit c.slots c.bytes (taken_for (sizes_of c)) (taken_refused (sizes_of c))

-- ---- a list of captures

-- none is refused by 19 where the whole sum fits, and only there
record WholeSum (r : CostReport) (cs : List LentCapture) : Type 0 where
  fit : report_fits (plus r (amounts (map sizes_of cs))) ≡ true
  is : report_after r cs ≡ plus r (amounts (map sizes_of cs))

whole-next : (r : CostReport) (c : LentCapture) (cs : List LentCapture) → report_left r (told_of r c) ≡ plus r (amount_of (sizes_of c))
    → WholeSum (report_left r (told_of r c)) cs → WholeSum r (c ∷ cs)
unfolding amounts
whole-next r c cs e w =
    let a : plus (report_left r (told_of r c)) (amounts (map sizes_of cs)) ≡ plus r (plus (amount_of (sizes_of c)) (amounts (map sizes_of cs)))
    = ap (λ (x : CostReport). plus x (amounts (map sizes_of cs))) e ∙ plus_assoc r (amount_of (sizes_of c)) (amounts (map sizes_of cs)) in
    record { fit = ap report_fits (sym a) ∙ w.fit; is = w.is ∙ a }

whole_by : (r : CostReport) (c : LentCapture) (cs : List LentCapture) → SumTold r (plus r (amount_of (sizes_of c))) (told_of r c) → report_fits r ≡ true
    → is_over (told_of r c) ≡ false → (report_fits (report_left r (told_of r c)) ≡ true → WholeSum (report_left r (told_of r c)) cs) → WholeSum r (c ∷ cs)
whole_by r c cs (goes d e g) f n later = whole-next r c cs e (later (ap report_fits e ∙ g f))
whole_by r c cs (over d g) f n later = absurd (false≢true (sym n ∙ d))

whole : (r : CostReport) (cs : List LentCapture) → report_fits r ≡ true → none_over r cs ≡ true → WholeSum r cs
unfolding amounts
whole r [] f n = record { fit = ap report_fits (plus-empty r) ∙ f; is = sym (plus-empty r) }
whole r (c ∷ cs) f n =
    whole_by r c cs (told_is r c) f (not-true (is_over (told_of r c)) (and_left (not (is_over (told_of r c))) _ n)) (λ g.
    whole (report_left r (told_of r c)) cs g (and_right (not (is_over (told_of r c))) _ n))

none-by : (r : CostReport) (c : LentCapture) (rest : CostReport) → SumTold r (plus r (amount_of (sizes_of c))) (told_of r c)
    → report_fits (plus (plus r (amount_of (sizes_of c))) rest) ≡ true
    → (is_over (told_of r c) ≡ false) × (report_fits (plus (report_left r (told_of r c)) rest) ≡ true)
none-by r c rest (goes d e k) g = (d, ap (λ (x : CostReport). report_fits (plus x rest)) e ∙ g)
none-by r c rest (over d k) g = absurd (false≢true (sym k ∙ plus-part (plus r (amount_of (sizes_of c))) rest g))

none_over_lem : (r : CostReport) (cs : List LentCapture) → report_fits (plus r (amounts (map sizes_of cs))) ≡ true → none_over r cs ≡ true
unfolding amounts
none_over_lem r [] f = refl
none_over_lem r (c ∷ cs) f =
    let rest : CostReport = amounts (map sizes_of cs) in
    let k = none-by r c rest (told_is r c) (ap report_fits (plus_assoc r (amount_of (sizes_of c)) rest) ∙ f) in
    rw k.0 (none_over_lem (report_left r (told_of r c)) cs k.1)

-- ---- the order

amounts-order : {ys zs : List CaptureSizes} → Permᴰ ys zs → amounts ys ≡ amounts zs
unfolding amounts
amounts-order Permᴰ.nil = refl
amounts-order (Permᴰ.cons {b = b} {l₁ = l₁} e d) = ap (λ (z : CaptureSizes). plus (amount_of z) (amounts l₁)) e ∙ ap (plus (amount_of b)) (amounts-order d)
amounts-order (Permᴰ.swap {a = a} {b = b} {a' = a'} {l = l} e d) =
    plus-swap (amount_of a) (amount_of b) (amounts l)
    ∙ ap (λ (z : CaptureSizes). plus (amount_of z) (plus (amount_of a) (amounts l))) d
    ∙ ap (λ (z : CaptureSizes). plus (amount_of a') (plus (amount_of z) (amounts l))) e
amounts-order (Permᴰ.trans d e) = amounts-order d ∙ amounts-order e

pub order-is-free : OrderIsFree
order-is-free r cs ds f p n =
    let w = whole r cs f n in
    let e : amounts (map sizes_of cs) ≡ amounts (map sizes_of ds) = amounts-order p in
    let m = none_over_lem r ds (ap (λ (x : CostReport). report_fits (plus r x)) (sym e) ∙ w.fit) in
    (m, w.is ∙ ap (plus r) e ∙ sym (whole r ds f m).is)

-- ---- 64 bits

costs-fit : (c : Costs) → InBits c → costs_fit c ≡ true
unfolding costs_fit
costs-fit c b =
    rw (
      lt-ltb c.firsts past64 (omega (arith, b.0)),
      lt-ltb c.finished past64 (omega (arith, b.1)),
      lt-ltb c.replaced past64 (omega (arith, b.2)),
      lt-ltb c.dropped past64 (omega (arith, b.3)),
      lt-ltb c.pending past64 (omega (arith, b.4)),
      lt-ltb c.payload past64 (omega (arith, b.5)),
      lt-ltb c.bytes past64 (omega (arith, b.6)),
    )

pub fits_all : FitsAll
fits_all r b = rw (costs-fit r.control (b Control), costs-fit r.ota (b Ota)) (costs-fit r.alexa (b Alexa))

below : (n : ℕ) → ltb n past64 ≡ true → n ≤ 18446744073709551615
below n e =
    let u = ltb-true n past64 e in
    omega (arith, u)

costs-in : (c : Costs) → costs_fit c ≡ true → InBits c
unfolding costs_fit
costs-in c e =
    let e1 = and_right (ltb c.firsts past64) _ e in
    let e2 = and_right (ltb c.finished past64) _ e1 in
    let e3 = and_right (ltb c.replaced past64) _ e2 in
    let e4 = and_right (ltb c.dropped past64) _ e3 in
    let e5 = and_right (ltb c.pending past64) _ e4 in (
      below c.firsts (and_left (ltb c.firsts past64) _ e),
      below c.finished (and_left (ltb c.finished past64) _ e1),
      below c.replaced (and_left (ltb c.replaced past64) _ e2),
      below c.dropped (and_left (ltb c.dropped past64) _ e3),
      below c.pending (and_left (ltb c.pending past64) _ e4),
      below c.payload (and_left (ltb c.payload past64) _ e5),
      below c.bytes (and_right (ltb c.payload past64) _ e5),
    )

pub fits-only : FitsOnly
fits-only r Control e = costs-in r.control (and_left (costs_fit r.control) _ e)
fits-only r Ota e = costs-in r.ota (and_left (costs_fit r.ota) _ (and_right (costs_fit r.control) _ e))
fits-only r Alexa e = costs-in r.alexa (and_right (costs_fit r.ota) _ (and_right (costs_fit r.control) _ e))
