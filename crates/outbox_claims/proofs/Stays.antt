-- A refusal that is not of a cut stays, whatever bytes follow.
use Prim.Native.Nat.{ℕ, ◌+◌, ◌-◌, ◌≤◌, ◌<◌}
use mathlib.Core.Path.{◌≡◌, refl, sym, ap, ◌∙◌}
use mathlib.Core.Bool.{Bool, true, false, ◌||◌}
use mathlib.Core.List.{List, [], ◌∷◌, ◌++◌}
use native.Mathlib.Decide.{dec_le, dec_lt}
use native.Mathlib.Omega.{arith}
use lib.Dec.{eqb, ltb}
use lib.ListN.{length, get_or, drop, length-append, get_or-append}
use lib.Seq.{drop-append-le}
use borrow.Author.Tests.{eqb-false, ne_eqb}
use Rattle.wire.specs.Stream.{is_stream}
use Rattle.outbox.specs.Format.{Format}
use Rattle.outbox.specs.Reader.{HandedRecord, refused_at, handed, length_in, other_version, record_at, read_of, readings, read_all, first_refusal}
use Rattle.outbox.proofs.Number.{number_append}
use Rattle.outbox.proofs.Record.{clash, found-spans, range-passed, field-cut-read, wrong-read, cut-read, strange-read, whole-read, record-more}
use Rattle.outbox.proofs.Place.{found_within}
use Rattle.outbox_claims.proofs.Run.{RecordRun, ends, stops, goes}
use Rattle.outbox_claims.proofs.Cut.{part_same}

-- a record that is refused for its length or its stream
module _ (fmt : Format) (rest more : List ℕ) (place n : ℕ) (e : record_at fmt place rest ≡ refused_at n place) (uncut : eqb n 41 ≡ false) where
  not-cut : record_at fmt place rest ≡ refused_at 41 place → ⊥
  not-cut cut = let z : n ≡ 41 = cc in eqb-false n 41 uncut z

  module _ (field : fmt.width ≤ length rest) where
    same : length_in fmt (rest ++ more) ≡ length_in fmt rest
    same = number_append fmt.width rest more field

    by-stream : (b : Bool) → is_stream (get_or rest fmt.width 0) ≡ b → (eqb (length_in fmt rest) 0 || ltb (fmt.limit + 1) (length_in fmt rest)) ≡ false
        → length_in fmt rest ≤ length rest - fmt.width → record_at fmt place (rest ++ more) ≡ refused_at n place
    by-stream true s right inside = absurd (clash (cc (whole-read fmt rest (length_in fmt rest) refl field right inside place s)))
    by-stream false s right inside =
        let all = length-append rest more in
        let some = (range-passed (length_in fmt rest) (fmt.limit + 1) right).0 in
        strange-read fmt (rest ++ more) (length_in fmt rest) same (omega arith) right (omega arith) place
        (ap is_stream (get_or-append rest more 0 fmt.width (omega arith)) ∙ s)
        ∙ sym (strange-read fmt rest (length_in fmt rest) refl field right inside place s)
        ∙ e

    by-inside : Dec (length rest - fmt.width < length_in fmt rest) → (eqb (length_in fmt rest) 0 || ltb (fmt.limit + 1) (length_in fmt rest)) ≡ false
        → record_at fmt place (rest ++ more) ≡ refused_at n place
    by-inside (yes h) right = absurd (not-cut (cut-read fmt rest (length_in fmt rest) refl field right place h))
    by-inside (no h) right = by-stream (is_stream (get_or rest fmt.width 0)) refl right (omega arith)

    by_length : (b : Bool) → (eqb (length_in fmt rest) 0 || ltb (fmt.limit + 1) (length_in fmt rest)) ≡ b → record_at fmt place (rest ++ more) ≡ refused_at n place
    by_length true wrong =
        let all = length-append rest more in
        wrong-read fmt (rest ++ more) (length_in fmt rest) same (omega arith) place wrong
        ∙ sym (wrong-read fmt rest (length_in fmt rest) refl field place wrong)
        ∙ e
    by_length false right = by-inside (dec_lt (length rest - fmt.width) (length_in fmt rest)) right

  pub record-stays : record_at fmt place (rest ++ more) ≡ refused_at n place
  record-stays = by_field (dec_le fmt.width (length rest))
    where
      by_field : Dec (fmt.width ≤ length rest) → record_at fmt place (rest ++ more) ≡ refused_at n place
      by_field (yes field) = by_length field (eqb (length_in fmt rest) 0 || ltb (fmt.limit + 1) (length_in fmt rest)) refl
      by_field (no short) = absurd (not-cut (field-cut-read fmt rest place (omega arith)))

-- a run that ends at such a refusal
pub run-stays : (fmt : Format) (part more : List ℕ) (n p : ℕ) → eqb n 41 ≡ false → {place : ℕ} {hs : List HandedRecord} → RecordRun fmt part place hs → first_refusal hs ≡ refused_at n p
    → RecordRun fmt (part ++ more) place hs
run-stays fmt part more n p uncut (ends place e) refusal = absurd (clash (cc))
run-stays fmt part more n p uncut (stops place {n = m} inside e) refusal =
    let same : m ≡ n = cc in
    stops place {n = m} (omega (arith, length-append part more))
    (rw (drop-append-le place part more (omega arith)) (record-stays fmt (drop place part) more place m e (rw same uncut)))
run-stays fmt part more n p uncut (goes place {f = f} inside e pay r) refusal =
    let within = found_within fmt part place f (omega arith) e in
    let span = found-spans fmt place (drop place part) f e in
    goes place {f = f} (omega (arith, length-append part more))
    (rw (drop-append-le place part more (omega arith)) (record-more fmt (drop place part) more place f e))
    (pay ∙ sym (part_same part more f.start f.size (omega arith)))
    (run-stays fmt part more n p uncut r refusal)

-- 40 is all that a file of another version gives
pub other-version-all : (fmt : Format) (file : List ℕ) → other_version fmt file ≡ true → read_all fmt file ≡ handed (refused_at 40 0) [] ∷ []
unfolding read_all readings read_of
other-version-all fmt file v = rw v

pub other-version-stays : (fmt : Format) (part more : List ℕ) → 1 ≤ length part → other_version fmt (part ++ more) ≡ other_version fmt part
unfolding other_version
other-version-stays fmt [] more some = absurd (omega arith)
other-version-stays fmt (b ∷ part) more some =
    rw (ne_eqb (length (b ∷ (part ++ more))) 0 (omega arith), ne_eqb (length (b ∷ part)) 0 (omega arith))
