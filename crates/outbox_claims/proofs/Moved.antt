-- Reading in an outbox of its own: the places told are those of the file less what goes before.
use Prim.Native.Nat.{ℕ, ◌+◌, ◌-◌, ◌≤◌}
use mathlib.Core.Path.{◌≡◌, refl, sym, ap, ◌∙◌}
use mathlib.Core.Bool.{Bool, true, false, ◌||◌}
use mathlib.Core.List.{List, [], ◌∷◌, ◌++◌}
use native.Mathlib.Decide.{dec_le}
use native.Mathlib.Omega.{arith}
use lib.Dec.{eqb, ltb}
use lib.ListN.{length, get_or, take, drop, length-append, get_or-append, take-append-drop}
use lib.Seq.{take_all, length-take-le, drop-append-add}
use Rattle.wire.specs.Stream.{is_stream}
use Rattle.wire.specs.Told.{line, table}
use Rattle.outbox.specs.Format.{Format, head_size}
use Rattle.outbox.specs.declared.reader.FoundRecord.{FoundRecord}
use Rattle.outbox.specs.Reader.{HandedRecord, given, refused_at, found, found_at, length_in, bad_length, cut_short, bad_stream, record_at}
use Rattle.outbox_claims.specs.Claims.{moved_found, moved_answer, all_moved}
use Rattle.outbox.proofs.Number.{number_append}
use Rattle.outbox.proofs.Record.{clash, found-starts, range-passed, wrong-read, strange-read, whole-read}
use Rattle.outbox.proofs.Place.{found_within}
use Rattle.outbox_claims.proofs.Run.{RecordRun, ends, stops, goes}

-- a record's places count from its own
pub record-moved : (fmt : Format) (rest : List ℕ) (place d : ℕ) → record_at fmt (place + d) rest ≡ moved_answer d (record_at fmt place rest)
unfolding record_at
record-moved fmt rest place d = by_tests (bad_length fmt rest) (cut_short fmt rest) (bad_stream fmt rest)
  where
    here : FoundRecord
    here = found_at fmt place (get_or rest fmt.width 0) (length_in fmt rest - 1)

    there : FoundRecord
    there = found_at fmt (place + d) (get_or rest fmt.width 0) (length_in fmt rest - 1)

    by_tests : (l c s : Bool)
        → table (line 42 l ∷ line 41 c ∷ line 43 s ∷ []) (λ n. refused_at n (place + d)) (given (found there))
        ≡ moved_answer d (table (line 42 l ∷ line 41 c ∷ line 43 s ∷ []) (λ n. refused_at n place) (given (found here)))
    by_tests true c s = refl
    by_tests false true s = refl
    by_tests false false true = refl
    by_tests false false false =
        let start : place + d + head_size fmt ≡ place + head_size fmt + d = omega arith in
        let next : place + d + head_size fmt + (length_in fmt rest - 1) ≡ place + head_size fmt + (length_in fmt rest - 1) + d = omega arith in
        rw (next, start)

-- the bytes of the longest record are enough to judge any
module _ (fmt : Format) (rest more : List ℕ) (enough : head_size fmt + fmt.limit ≤ length rest) where
  record-enough : (place : ℕ) → record_at fmt place (rest ++ more) ≡ record_at fmt place rest
  record-enough place = by_length (eqb n 0 || ltb (fmt.limit + 1) n) refl
    where
      n : ℕ
      n = length_in fmt rest

      all : length (rest ++ more) ≡ length rest + length more
      all = length-append rest more

      same : length_in fmt (rest ++ more) ≡ n
      same = number_append fmt.width rest more (omega arith)

      stream : get_or (rest ++ more) fmt.width 0 ≡ get_or rest fmt.width 0
      stream = get_or-append rest more 0 fmt.width (omega arith)

      by-stream : (b : Bool) → is_stream (get_or rest fmt.width 0) ≡ b → (eqb n 0 || ltb (fmt.limit + 1) n) ≡ false
          → record_at fmt place (rest ++ more) ≡ record_at fmt place rest
      by-stream true s right =
          let range = range-passed n (fmt.limit + 1) right in
          whole-read fmt (rest ++ more) n same (omega (arith, all)) right (omega (arith, all)) place (rw stream s)
          ∙ rw stream (sym (whole-read fmt rest n refl (omega arith) right (omega arith) place s))
      by-stream false s right =
          let range = range-passed n (fmt.limit + 1) right in
          strange-read fmt (rest ++ more) n same (omega (arith, all)) right (omega (arith, all)) place (rw stream s)
          ∙ sym (strange-read fmt rest n refl (omega arith) right (omega arith) place s)

      by_length : (b : Bool) → (eqb n 0 || ltb (fmt.limit + 1) n) ≡ b → record_at fmt place (rest ++ more) ≡ record_at fmt place rest
      by_length true wrong = wrong-read fmt (rest ++ more) n same (omega (arith, all)) place wrong ∙ sym (wrong-read fmt rest n refl (omega arith) place wrong)
      by_length false right = by-stream (is_stream (get_or rest fmt.width 0)) refl right

-- .. and no record is cut short in them
pub never-cut : (fmt : Format) (rest : List ℕ) (place : ℕ) → head_size fmt + fmt.limit ≤ length rest → record_at fmt place rest ≡ refused_at 41 place → ⊥
never-cut fmt rest place enough cut = by_length (eqb n 0 || ltb (fmt.limit + 1) n) refl
  where
    n : ℕ
    n = length_in fmt rest

    by-stream : (b : Bool) → is_stream (get_or rest fmt.width 0) ≡ b → (eqb n 0 || ltb (fmt.limit + 1) n) ≡ false → ⊥
    by-stream true s right =
        let range = range-passed n (fmt.limit + 1) right in
        clash (cc (whole-read fmt rest n refl (omega arith) right (omega arith) place s))
    by-stream false s right =
        let range = range-passed n (fmt.limit + 1) right in
        let z : ◌≡◌ {A = ℕ} 43 41 = cc (strange-read fmt rest n refl (omega arith) right (omega arith) place s) in
        omega arith

    by_length : (b : Bool) → (eqb n 0 || ltb (fmt.limit + 1) n) ≡ b → ⊥
    by_length true wrong = let z : ◌≡◌ {A = ℕ} 42 41 = cc (wrong-read fmt rest n refl (omega arith) place wrong) in omega arith
    by_length false right = by-stream (is_stream (get_or rest fmt.width 0)) refl right

-- .. so no more need be taken
pub record-taken : (fmt : Format) (rest : List ℕ) (n : ℕ) → head_size fmt + fmt.limit ≤ n → (place : ℕ) → record_at fmt place (take n rest) ≡ record_at fmt place rest
record-taken fmt rest n enough place = by_length (dec_le (length rest) n)
  where
    by_length : Dec (length rest ≤ n) → record_at fmt place (take n rest) ≡ record_at fmt place rest
    by_length (yes h) = rw (take_all n rest h)
    by_length (no h) =
        let long : length (take n rest) ≡ n = length-take-le n rest (omega arith) in
        sym (record-enough fmt (take n rest) (drop n rest) (omega arith) place) ∙ ap (record_at fmt place) (take-append-drop n rest)

-- the same bytes behind two beginnings, of which one is d bytes longer
module _ (fmt : Format) (own before rest : List ℕ) (d : ℕ) (longer : length before ≡ length own + d) where
  pub rest-same : (place : ℕ) → length own ≤ place → drop (place + d) (before ++ rest) ≡ drop place (own ++ rest)
  rest-same place h =
      let here : length own + (place - length own) ≡ place = omega arith in
      let there : length before + (place - length own) ≡ place + d = omega arith in
      ap (λ n. drop n (before ++ rest)) (sym there)
      ∙ drop-append-add before rest (place - length own)
      ∙ sym (drop-append-add own rest (place - length own))
      ∙ ap (λ n. drop n (own ++ rest)) here

  pub run_moved : {place : ℕ} {hs : List HandedRecord} → length own ≤ place → RecordRun fmt (own ++ rest) place hs → RecordRun fmt (before ++ rest) (place + d) (all_moved d hs)
  run_moved h (ends place e) = ends (place + d) (omega (arith, length-append own rest, length-append before rest))
  run_moved h (stops place {n = n} inside e) =
      stops (place + d) {n = n} (omega (arith, length-append own rest, length-append before rest))
      (rw (rest-same place h, record-moved fmt (drop place (own ++ rest)) place d, e))
  run_moved h (goes place {f = f} {payload = payload} {hs = hs} inside e p r) =
      let after = found_within fmt (own ++ rest) place f (omega arith) e in
      let spans = found-starts fmt place (drop place (own ++ rest)) f e in
      goes (place + d) {f = moved_found d f} (omega (arith, length-append own rest, length-append before rest))
      (rw (rest-same place h, record-moved fmt (drop place (own ++ rest)) place d, e))
      (p ∙ sym (ap (take f.size) (rest-same f.start (omega arith))))
      (run_moved (omega arith) r)
