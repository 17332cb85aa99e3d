-- Claim (a): appends from a new outbox, then readings.
use Prim.Native.Nat.{ℕ, ◌+◌, ◌≤◌}
use mathlib.Core.Path.{◌≡◌, refl, sym, ap, ◌∙◌}
use mathlib.Core.Bool.{false}
use mathlib.Core.List.{List, [], ◌∷◌, ◌++◌, append-nil, append_assoc}
use native.Mathlib.Omega.{arith}
use lib.ListN.{length, drop, length-append, length-drop}
use lib.Seq.{sets-eq, take-length, take-append_seam, drop-append-add, drop-drop}
use borrow.Author.Tests.{le-ltb, eq-eqb}
use Rattle.outbox.specs.Format.{Format, new_bytes}
use Rattle.outbox.specs.Reader.{given, other_version, read_all, walk_of}
use Rattle.outbox.specs.Writer.{Stored, stored, new_of, append_of}
use Rattle.outbox_claims.specs.Claims.{Lawful, Entry, EntryTaken, AllTaken, after, after_all, expected, usable, append_all, Returned, RecordsReturn}
use Rattle.outbox.proofs.Place.{version-more}
use Rattle.outbox_claims.proofs.Run.{ends, run-all, walk_is}
use Rattle.outbox.proofs.Stored.{length-record}
use Rattle.outbox_claims.proofs.Contents.{entry_bytes, contents, entry-ends, contents-run}
use Rattle.outbox_claims.proofs.Append.{grown-whole, append-stored}

-- the records' bytes reach from their place to the place after them
after-all : (fmt : Format) (place : ℕ) (es : List Entry) → after_all fmt place es ≡ place + length (contents fmt es)
after-all fmt place [] = omega arith
after-all fmt place (e ∷ es) = after-all fmt (after fmt place e) es ∙ rw (length-append, length-record) (omega arith)

-- a buffer that a file's bytes begin, and room behind them
abbrev pub filled : List ℕ → List ℕ → Stored
filled file room = stored (given (length file)) (file ++ room)

-- one append to a whole file
pub append-one : (fmt : Format) (file room : List ℕ) (e : Entry) → EntryTaken fmt e → other_version fmt file ≡ false → walk_of fmt file ≡ given tt
    → after fmt (length file) e ≤ length (file ++ room)
    → append_of fmt (file ++ room) (length file) e.stream e.payload ≡ filled (file ++ entry_bytes fmt e) (drop (length (entry_bytes fmt e)) room)
append-one fmt file room e takes v whole fits =
    append-stored fmt file v (length file) (ap (λ w. usable w file) whole) e takes room fits
    ∙ rw (
      sets-eq (entry_bytes fmt e) (file ++ room) (length file) (rw length-record (omega arith)),
      take-append_seam file room,
      drop-append-add file room (length (entry_bytes fmt e)),
      length-append file (entry_bytes fmt e),
    )

-- appends to a whole file, one after another
append-all : (fmt : Format) → Lawful fmt → (es : List Entry) → AllTaken fmt es → (file room : List ℕ)
    → other_version fmt file ≡ false → walk_of fmt file ≡ given tt → after_all fmt (length file) es ≤ length (file ++ room)
    → append_all fmt (filled file room) es ≡ filled (file ++ contents fmt es) (drop (length (contents fmt es)) room)
append-all fmt lawful [] taken file room v whole fits = rw append-nil
append-all fmt lawful (e ∷ es) taken file room v whole fits =
    let size = length-record fmt e.stream e.payload in
    let ends = after-all fmt (after fmt (length file) e) es in
    let all = length-append file room in
    let next = entry-ends fmt e file in
    let grown : walk_of fmt (file ++ entry_bytes fmt e) ≡ given tt
    = rw take-length at (grown-whole fmt file v (length file) (ap (λ w. usable w file) whole) lawful e taken.0) in
    let left : length ((file ++ entry_bytes fmt e) ++ drop (length (entry_bytes fmt e)) room) ≡ length file + length room
    = rw (length-append, next, length-drop) (omega (arith, size)) in
    rw (append-one fmt file room e taken.0 v whole (omega arith))
    (append-all
    fmt
    lawful
    es
    taken.1
    (file ++ entry_bytes fmt e)
    (drop (length (entry_bytes fmt e)) room)
    (version-more fmt file (entry_bytes fmt e) v)
    grown
    (rw (left, next) (omega arith))
    ∙ rw (append_assoc file (entry_bytes fmt e) (contents fmt es), drop-drop, length-append (entry_bytes fmt e) (contents fmt es)))

module _ (fmt : Format) where
  pub new-version : other_version fmt (new_bytes fmt) ≡ false
  unfolding other_version
  new-version = rw (eq-eqb fmt.version fmt.version refl)

  pub new-whole : walk_of fmt (new_bytes fmt) ≡ given tt
  new-whole = rw (walk_is, run-all fmt (new_bytes fmt) new-version (ends 1 refl))

  pub new-filled : (b : ℕ) (room : List ℕ) → new_of fmt (b ∷ room) ≡ filled (new_bytes fmt) room
  unfolding new_of
  new-filled b room = rw (le-ltb (length (b ∷ room)) 1 (omega arith))

returned : (fmt : Format) → Lawful fmt → (b : ℕ) (room : List ℕ) (es : List Entry) → AllTaken fmt es → after_all fmt 1 es ≤ length (b ∷ room)
    → Returned fmt (append_all fmt (new_of fmt (b ∷ room)) es) es
returned fmt lawful b room es taken fits =
    rw (new-filled fmt b room, append-all fmt lawful es taken (new_bytes fmt) room (new-version fmt) (new-whole fmt) fits)
    (record { taken = ap given (sym end_is); read = rw (end_is, take-append_seam (new_bytes fmt ++ contents fmt es) (drop (length (contents fmt es)) room)) reads })
  where
    end_is : after_all fmt 1 es ≡ length (new_bytes fmt ++ contents fmt es)
    end_is = after-all fmt 1 es ∙ omega arith

    reads : read_all fmt (new_bytes fmt ++ contents fmt es) ≡ expected fmt 1 es
    reads =
        run-all fmt (new_bytes fmt ++ contents fmt es) (version-more fmt (new_bytes fmt) (contents fmt es) (new-version fmt))
        (contents-run fmt lawful es taken (new_bytes fmt))

pub records-return : RecordsReturn
unfolding RecordsReturn
records-return fmt lawful [] es taken fits = absurd (omega (arith, after-all fmt 1 es))
records-return fmt lawful (b ∷ room) es taken fits = returned fmt lawful b room es taken (omega arith)
