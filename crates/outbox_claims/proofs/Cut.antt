-- Laws of a file of which only the first bytes are kept, and of one to which bytes are added.
use Prim.Native.Nat.{ℕ, ◌+◌, ◌-◌, ◌≤◌, ◌<◌, min}
use mathlib.Core.Path.{◌≡◌, refl, sym, ◌∙◌}
use mathlib.Core.Bool.{Bool, true, false, cond}
use mathlib.Core.List.{List, [], ◌∷◌, ◌++◌}
use native.Mathlib.Omega.{arith}
use lib.Dec.{eqb, leb}
use lib.ListN.{length, take, drop, length-append, length-drop}
use lib.Seq.{take-append-le, drop-append-le}
use borrow.Author.Tests.{leb-true, leb-false, eqb-true, eqb-false}
use Rattle.outbox.specs.Format.{Format}
use Rattle.outbox.specs.Reader.{Answer, Item, HandedRecord, given, refused, refused_at, found, end, handed, record_at, first_refusal}
use Rattle.outbox_claims.specs.Claims.{cut_from, usable, record_of, records_of}
use Rattle.outbox.proofs.Record.{clash, found-spans, record-more, record-kept, record-cut}
use Rattle.outbox.proofs.Place.{found_within}
use Rattle.outbox_claims.proofs.Run.{RecordRun, ends, stops, goes}

-- a part of the first bytes
pub part_same : (first more : List ℕ) (start size : ℕ) → start + size ≤ length first → take size (drop start (first ++ more)) ≡ take size (drop start first)
part_same first more start size h =
    rw (drop-append-le start first more (omega arith)) (take-append-le size (drop start first) more (simp length-drop (omega arith)))

module _ (fmt : Format) (first more : List ℕ) (kept : ℕ) (is : length first ≡ min kept (length first + length more)) where
  -- a whole run, when only the first bytes are kept
  pub cut-run : {place : ℕ} {hs : List HandedRecord} → RecordRun fmt (first ++ more) place hs → first_refusal hs ≡ given tt → place ≤ kept
      → RecordRun fmt first place (cut_from kept place hs)
  cut-run (ends place e) whole h = ends place (omega (arith, simp length-append at e))
  cut-run (stops place inside e) whole h = absurd (clash (cc))
  cut-run (goes place {f = f} {payload = payload} {hs = hs} inside e p r) whole h =
      by-keep (leb f.next kept) refl (λ k. cut-run r whole k)
    where
      all : length (first ++ more) ≡ length first + length more
      all = length-append first more

      within : (place < f.next) × (f.next ≤ length (first ++ more))
      within = found_within fmt (first ++ more) place f (omega arith) e

      stands : record_at fmt place (drop place first ++ more) ≡ given (found f)
      stands = rw (drop-append-le place first more (omega (arith, all))) at e

      left : length (drop place first) ≡ length first - place
      left = length-drop place first

      by-begin : (b : Bool) → eqb place kept ≡ b → kept < f.next
          → RecordRun fmt first place (handed (cond b (given end) (refused_at 41 place)) [] ∷ [])
      by-begin true t k = ends place (omega (arith, all, within.1, eqb-true place kept t))
      by-begin false t k =
          stops place (omega (arith, all, within.1, eqb-false place kept t))
          (record-cut fmt (drop place first) more place f stands (omega (arith, all, left, within.1, within.0)))

      by-keep : (b : Bool) → leb f.next kept ≡ b → (f.next ≤ kept → RecordRun fmt first f.next (cut_from kept f.next hs))
          → RecordRun fmt first place
          (cond b (handed (given (found f)) payload ∷ cut_from kept f.next hs) (handed (cond (eqb place kept) (given end) (refused_at 41 place)) [] ∷ []))
      by-keep true t later =
          let k = leb-true f.next kept t in
          goes
          place
          (omega (arith, all, within.0, within.1))
          (record-kept fmt (drop place first) more place f stands (omega (arith, all, left, within.0, within.1)))
          (p ∙ part_same first more f.start f.size (omega (arith, all, within.1, found-spans fmt place (drop place (first ++ more)) f e)))
          (later k)
      by-keep false t later = by-begin (eqb place kept) refl (leb-false f.next kept t)

-- a run stops, at its end or a refusal, at its place or after it and within the file
pub run-usable : (fmt : Format) (file : List ℕ) {place : ℕ} {hs : List HandedRecord} → RecordRun fmt file place hs
    → (place ≤ usable (first_refusal hs) file) × (usable (first_refusal hs) file ≤ length file)
run-usable fmt file (ends place e) = (omega arith, omega arith)
run-usable fmt file (stops place inside e) = (omega arith, omega arith)
run-usable fmt file (goes place {f = f} inside e p r) =
    let later = run-usable fmt file r in
    (omega (arith, later.0, (found_within fmt file place f (omega arith) e).0), later.1)

-- other bytes in place of those at which a run stops
pub run-onward : (fmt : Format) (first more other : List ℕ) {place : ℕ} {hs later : List HandedRecord} → RecordRun fmt (first ++ more) place hs
    → usable (first_refusal hs) (first ++ more) ≡ length first → RecordRun fmt (first ++ other) (length first) later
    → RecordRun fmt (first ++ other) place (records_of hs ++ later)
run-onward fmt first more other (ends place e) stop later = rw (e ∙ stop) later
run-onward fmt first more other (stops place inside e) stop later = rw stop later
run-onward fmt first more other (goes place {f = f} inside e p r) stop later =
    let all = length-append first more in
    let all-other = length-append first other in
    let before = (found_within fmt (first ++ more) place f (omega arith) e).0 in
    let next : f.next ≤ length first = rw (← stop) (run-usable fmt (first ++ more) r).0 in
    let span = found-spans fmt place (drop place (first ++ more)) f e in
    let left = length-drop place first in
    let stood : record_at fmt place (drop place first) ≡ given (found f)
    = record-kept fmt (drop place first) more place f (rw (drop-append-le place first more (omega arith)) at e) (omega arith) in
    goes place {f = f} (omega arith) (rw (drop-append-le place first other (omega arith)) (record-more fmt (drop place first) other place f stood))
    (p ∙ part_same first more f.start f.size (omega arith) ∙ sym (part_same first other f.start f.size (omega arith)))
    (run-onward fmt first more other r stop later)

-- records are no refusals
pub records-pass : (hs later : List HandedRecord) → first_refusal (records_of hs ++ later) ≡ first_refusal later
records-pass [] later = refl
records-pass (h ∷ hs) later = by_answer h.answer refl (records-pass hs later)
  where
    by_answer : (a : Answer Item) → h.answer ≡ a → first_refusal (records_of hs ++ later) ≡ first_refusal later
        → first_refusal (record_of h a ++ records_of hs ++ later) ≡ first_refusal later
    by_answer (given (found f)) e passed = rw e passed
    by_answer (given end) e passed = passed
    by_answer (refused n) e passed = passed
    by_answer (refused_at n p) e passed = passed
