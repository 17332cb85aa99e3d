-- Reading place after place as a run: record after record, to the end or a refusal. A run is free of the number of turns.
use Prim.Native.Nat.{ℕ, zero, suc, ◌+◌, ◌≤◌, ◌<◌}
use mathlib.Core.Path.{◌≡◌, refl, ◌∙◌}
use mathlib.Core.Bool.{false}
use mathlib.Core.List.{List, [], ◌∷◌}
use native.Mathlib.Decide.{dec_lt}
use native.Mathlib.Omega.{arith}
use lib.ListN.{length, take, drop}
use Rattle.outbox.specs.Format.{Format}
use Rattle.outbox.specs.declared.reader.FoundRecord.{FoundRecord}
use Rattle.outbox.specs.Reader.{Answer, Item, HandedRecord, given, refused_at, found, end, handed, payload_in, onward, other_version, record_at, read_of, readings, read_all, first_refusal, walk_of}
use Rattle.outbox.proofs.Record.{View, whole, broken, view, front}
use Rattle.outbox.proofs.Place.{opened, right-place, read-inside, read-end, found_within}

-- what reading place after place hands out from a place on
pub data RecordRun (fmt : Format) (file : List ℕ) : ℕ → List HandedRecord → Type 0 where
  ends : (place : ℕ) → place ≡ length file → RecordRun fmt file place (handed (given end) [] ∷ [])
  stops : (place : ℕ) {n : ℕ} → place < length file → record_at fmt place (drop place file) ≡ refused_at n place
      → RecordRun fmt file place (handed (refused_at n place) [] ∷ [])
  goes : (place : ℕ) {f : FoundRecord} {payload : List ℕ} {hs : List HandedRecord}
      → place < length file → record_at fmt place (drop place file) ≡ given (found f) → payload ≡ take f.size (drop f.start file)
      → RecordRun fmt file f.next hs → RecordRun fmt file place (handed (given (found f)) payload ∷ hs)

module _ (fmt : Format) (file : List ℕ) (v : other_version fmt file ≡ false) where
  -- one reading, and a run from wherever it leads
  one_more : (turns place : ℕ) → 1 ≤ place → place ≤ length file
      → ((f : FoundRecord) → place < f.next → f.next ≤ length file → RecordRun fmt file f.next (readings turns fmt file f.next))
      → RecordRun fmt file place (readings (suc turns) fmt file place)
  unfolding readings
  one_more turns place first inside later = by_place (dec_lt place (length file))
    where
      by-view : (a : Answer Item) → View fmt place (drop place file) a → place < length file → record_at fmt place (drop place file) ≡ a
          → RecordRun fmt file place (handed a (payload_in file a) ∷ onward a (λ next. readings turns fmt file next))
      by-view a (whole s) h e =
          let within = found_within fmt file place (front fmt place (drop place file)) inside e in
          goes place h e refl (later (front fmt place (drop place file)) within.0 within.1)
      by-view a (broken n) h e = stops place h e

      by_place : Dec (place < length file)
          → RecordRun fmt file place (handed (read_of fmt file place) (payload_in file (read_of fmt file place)) ∷ onward (read_of fmt file place) (λ next. readings turns fmt file next))
      by_place (yes h) =
          rw (read-inside fmt file place v (right-place file place first inside) (omega arith))
          (by-view (record_at fmt place (drop place file)) (view fmt (drop place file) place) h refl)
      by_place (no h) = rw (read-end fmt file place v first (omega arith)) (ends place (omega arith))

  -- with turns enough, the readings are a run
  pub readings-run : (turns place : ℕ) → 1 ≤ place → place ≤ length file → length file < place + turns
      → RecordRun fmt file place (readings turns fmt file place)
  readings-run zero place first inside enough = absurd (omega arith)
  readings-run (suc turns) place first inside enough =
      one_more turns place first inside (λ f after before. readings-run turns f.next (omega arith) before (omega arith))

  -- .. and there is no other
  pub run-readings : (turns : ℕ) {place : ℕ} {hs : List HandedRecord} → 1 ≤ place → length file < place + turns → RecordRun fmt file place hs
      → readings turns fmt file place ≡ hs
  unfolding readings
  run-readings zero first enough (ends place e) = absurd (omega arith)
  run-readings zero first enough (stops place h e) = absurd (omega arith)
  run-readings zero first enough (goes place h e p r) = absurd (omega arith)
  run-readings (suc turns) first enough (ends place e) = rw (read-end fmt file place v first e)
  run-readings (suc turns) first enough (stops place h e) =
      rw (read-inside fmt file place v (right-place file place first (omega arith)) (omega arith) ∙ e)
  run-readings (suc turns) first enough (goes place {f = f} h e p r) =
      let within = found_within fmt file place f (omega arith) e in
      rw (read-inside fmt file place v (right-place file place first (omega arith)) (omega arith) ∙ e, p, run-readings turns (omega (arith, within.0)) (omega (arith, within.0)) r)

-- reading all of a file is a run from the first record's place
module _ (fmt : Format) (file : List ℕ) where
  pub all-run : other_version fmt file ≡ false → RecordRun fmt file 1 (read_all fmt file)
  unfolding read_all
  all-run v = readings-run fmt file v (suc (length file)) 1 (omega arith) (opened fmt file v) (omega arith)

  pub run-all : other_version fmt file ≡ false → {hs : List HandedRecord} → RecordRun fmt file 1 hs → read_all fmt file ≡ hs
  unfolding read_all
  run-all v r = run-readings fmt file v (suc (length file)) (omega arith) (omega arith) r

  -- the walk tells the first refusal of them
  pub walk_is : walk_of fmt file ≡ first_refusal (read_all fmt file)
  unfolding walk_of
  walk_is = refl
