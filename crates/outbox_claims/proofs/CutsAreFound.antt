-- Claim (b): a whole outbox cut at any byte.
use Prim.Native.Nat.{ℕ, zero, suc, ◌+◌, min}
use mathlib.Core.Path.{◌≡◌, refl, sym, ap, ◌∙◌}
use mathlib.Core.List.{List, [], ◌∷◌, ◌++◌}
use native.Mathlib.Omega.{arith}
use lib.ListN.{length, take, drop, length-append, length-take, take-append-drop}
use Rattle.outbox.specs.Format.{Format}
use Rattle.outbox.specs.Reader.{given, refused_at, handed, other_version, read_of, readings, read_all, first_refusal, walk_of}
use Rattle.outbox.specs.Writer.{new_of}
use Rattle.outbox_claims.specs.Claims.{Entry, after, expected, after_all, append_all, RecordsReturn, cut_from, cut_at, CutsAreFound}
use Rattle.outbox.proofs.Place.{version-kept}
use Rattle.outbox.proofs.Walk.{whole-version}
use Rattle.outbox_claims.proofs.Run.{RecordRun, all-run, run-all, walk_is}
use Rattle.outbox_claims.proofs.Cut.{cut-run}
use Rattle.outbox_claims.proofs.RecordsReturn.{records-return}

nothing-kept : (fmt : Format) (file : List ℕ) → read_all fmt (take 0 file) ≡ handed (refused_at 40 0) [] ∷ []
unfolding read_all readings read_of other_version
nothing-kept fmt file = refl

-- the length of what is kept, with what is cut off
kept-length : (kept : ℕ) (file : List ℕ) → length (take kept file) ≡ min kept (length (take kept file) + length (drop kept file))
kept-length kept file =
    let all : length (take kept file) + length (drop kept file) ≡ length file
    = sym (length-append (take kept file) (drop kept file)) ∙ ap length (take-append-drop kept file) in
    rw (all, length-take)

some-kept : (fmt : Format) (file : List ℕ) (k : ℕ) → walk_of fmt file ≡ given tt → read_all fmt (take (suc k) file) ≡ cut_from (suc k) 1 (read_all fmt file)
some-kept fmt file k whole =
    let v = whole-version fmt file whole in
    let run : RecordRun fmt (take (suc k) file ++ drop (suc k) file) 1 (read_all fmt file) = rw take-append-drop (all-run fmt file v) in
    run-all fmt (take (suc k) file) (version-kept fmt file (suc k) (omega arith) v)
    (cut-run fmt (take (suc k) file) (drop (suc k) file) (suc k) (kept-length (suc k) file)
    run (sym (walk_is fmt file) ∙ whole) (omega arith))

whole-cut : (fmt : Format) (file : List ℕ) (kept : ℕ) → walk_of fmt file ≡ given tt → read_all fmt (take kept file) ≡ cut_at kept (read_all fmt file)
whole-cut fmt file zero whole = nothing-kept fmt file
whole-cut fmt file (suc k) whole = some-kept fmt file k whole

-- records that the writer must take are no refusals
pub expected-passes : (fmt : Format) (place : ℕ) (es : List Entry) → first_refusal (expected fmt place es) ≡ given tt
expected-passes fmt place [] = refl
expected-passes fmt place (e ∷ es) = expected-passes fmt (after fmt place e) es

pub cuts-are-found : CutsAreFound
unfolding RecordsReturn
cuts-are-found =
    record {
      whole = whole-cut;
      appended = λ fmt lawful buffer es taken fits kept.
          let back = records-return fmt lawful buffer es taken (omega arith) in
          let file = take (after_all fmt 1 es) (append_all fmt (new_of fmt buffer) es).buffer in
          whole-cut fmt file kept (walk_is fmt file ∙ ap first_refusal back.read ∙ expected-passes fmt 1 es) ∙ ap (cut_at kept) back.read;
    }
