-- Appending after what is usable of any bytes that have the version.
use Prim.Native.Nat.{ℕ, ◌+◌, ◌≤◌}
use mathlib.Core.Path.{◌≡◌, sym, ap, ◌∙◌}
use mathlib.Core.Bool.{false}
use mathlib.Core.List.{List, [], ◌∷◌, ◌++◌, append-nil}
use native.Mathlib.Omega.{arith}
use lib.ListN.{length, take, drop, length-append, take-append-drop}
use lib.Seq.{sets, sets-eq, take_at, take-append-le, length-take-le}
use borrow.Author.Tests.{le-ltb}
use Rattle.outbox.specs.Format.{Format}
use Rattle.outbox.specs.Reader.{HandedRecord, given, other_version, read_all, first_refusal, walk_of}
use Rattle.outbox.specs.Writer.{stored_at, bad_record, append_of}
use Rattle.outbox_claims.specs.Claims.{Lawful, Entry, EntryTaken, after, expected, usable, records_of, Resumed}
use Rattle.outbox.proofs.Place.{version-kept, version-more}
use Rattle.outbox_claims.proofs.Run.{RecordRun, ends, all-run, run-all, walk_is}
use Rattle.outbox_claims.proofs.Cut.{run-usable, run-onward, records-pass}
use Rattle.outbox.proofs.Stored.{length-record, append-judged}
use Rattle.outbox_claims.proofs.Contents.{entry_bytes, contents-run}

-- a record that the writer takes is not judged wrong
takes-right : (fmt : Format) (e : Entry) → EntryTaken fmt e → bad_record fmt e.stream (length e.payload) ≡ false
unfolding bad_record
takes-right fmt e t = rw (t.known, le-ltb fmt.limit (length e.payload) (omega (arith, t.short)))

-- the bytes up to the end of what was stored
stored-front : (buffer : List ℕ) (used : ℕ) (l : List ℕ) → used + length l ≤ length buffer → take (used + length l) (sets buffer used l) ≡ take used buffer ++ l
stored-front buffer used l h =
    rw (sets-eq l buffer used h) (take_at (take used buffer ++ l) _ (used + length l) (rw (length-append, length-take-le used buffer (omega arith))))

module _ (fmt : Format) (left : List ℕ) (v : other_version fmt left ≡ false) (used : ℕ) (is : usable (walk_of fmt left) left ≡ used) where
  stop : usable (first_refusal (read_all fmt left)) left ≡ used
  stop = rw walk_is at is

  pub bounds : (1 ≤ used) × (used ≤ length left)
  bounds = rw stop at (run-usable fmt left (all-run fmt left v))

  version : other_version fmt (take used left) ≡ false
  version = version-kept fmt left used bounds.0 v

  long : length (take used left) ≡ used
  long = length-take-le used left bounds.1

  -- other bytes after what is usable
  pub onward : (other : List ℕ) {later : List HandedRecord} → RecordRun fmt (take used left ++ other) used later
      → RecordRun fmt (take used left ++ other) 1 (records_of (read_all fmt left) ++ later)
  onward other {later} r =
      let split : RecordRun fmt (take used left ++ drop used left) 1 (read_all fmt left) = rw take-append-drop (all-run fmt left v) in
      let at-end : usable (first_refusal (read_all fmt left)) (take used left ++ drop used left) ≡ length (take used left) = rw (take-append-drop, long) stop in
      let there : RecordRun fmt (take used left ++ other) (length (take used left)) later = rw long r in
      run-onward fmt (take used left) (drop used left) other split at-end there

  -- what is usable is whole
  usable-whole : walk_of fmt (take used left) ≡ given tt
  usable-whole =
      let run = onward [] (ends used (rw (append-nil, long))) in
      rw (walk_is, run-all fmt (take used left) version (rw append-nil at run)) (records-pass (read_all fmt left) _)

  module _ (e : Entry) (t : EntryTaken fmt e) (room : List ℕ) (h : after fmt used e ≤ length (left ++ room)) where
    pub append-stored : append_of fmt (left ++ room) used e.stream e.payload ≡ stored_at (left ++ room) used (entry_bytes fmt e)
    append-stored =
        append-judged fmt e.stream e.payload (left ++ room) used (omega arith) (rw (take-append-le used left room bounds.1) version) (takes-right fmt e t) (omega arith)
        ∙ rw (take-append-le used left room bounds.1, usable-whole)

  module _ (lawful : Lawful fmt) (e : Entry) (t : EntryTaken fmt e) where
    -- .. and so it is with a record after it
    grown-read : read_all fmt (take used left ++ entry_bytes fmt e) ≡ records_of (read_all fmt left) ++ expected fmt used (e ∷ [])
    grown-read =
        let new : RecordRun fmt (take used left ++ entry_bytes fmt e) used (expected fmt used (e ∷ []))
        = rw (append-nil, long) at (contents-run fmt lawful (e ∷ []) (t, tt) (take used left)) in
        run-all fmt (take used left ++ entry_bytes fmt e) (version-more fmt (take used left) (entry_bytes fmt e) version) (onward (entry_bytes fmt e) new)

    pub grown-whole : walk_of fmt (take used left ++ entry_bytes fmt e) ≡ given tt
    grown-whole = rw (walk_is, grown-read) (records-pass (read_all fmt left) (expected fmt used (e ∷ [])))

    pub append-resumes : (room : List ℕ) → after fmt used e ≤ length (left ++ room)
        → Resumed fmt (read_all fmt left) used e (append_of fmt (left ++ room) used e.stream e.payload)
    append-resumes room h = record { taken = rw (append-stored e t room h, size); whole = rw grown (grown-whole); read = rw grown (grown-read) }
      where
        size : used + length (entry_bytes fmt e) ≡ after fmt used e
        size = rw length-record (omega arith)

        grown : take (after fmt used e) (append_of fmt (left ++ room) used e.stream e.payload).buffer ≡ take used left ++ entry_bytes fmt e
        grown =
            rw (append-stored e t room h)
            (ap (λ n. take n (sets (left ++ room) used (entry_bytes fmt e))) (sym size)
            ∙ stored-front (left ++ room) used (entry_bytes fmt e) (rw size h)
            ∙ ap (λ l. l ++ entry_bytes fmt e) (take-append-le used left room bounds.1))
