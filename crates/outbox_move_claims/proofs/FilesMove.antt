-- The claim.
use Prim.Native.Nat.{ℕ, ◌+◌, ◌≤◌}
use mathlib.Core.Path.{◌≡◌, refl, sym, ap, ◌∙◌}
use mathlib.Core.Bool.{Bool, true, false, cond}
use mathlib.Core.List.{List, [], ◌∷◌, ◌++◌}
use native.Mathlib.Omega.{arith}
use lib.Dec.{eqb}
use lib.ListN.{length, take, drop}
use lib.Seq.{sets}
use borrow.Author.Tests.{le-ltb, eqb-true}
use Rattle.wire.specs.Bytes.{AllBytes}
use Rattle.wire.proofs.Stores.{first-bytes}
use Rattle.outbox.specs.Format.{Format, version_one, version_two, Known, is_one, format_of, head_size, new_bytes, first_place}
use Rattle.outbox.specs.Format as format
use Rattle.outbox.specs.Reader.{given, read_all, walk_of}
use Rattle.outbox.specs.Writer.{stored_at}
use Rattle.outbox.proofs.Place.{opened}
use Rattle.outbox.proofs.Walk.{whole-version}
use Rattle.outbox.proofs.Versions.{format-known}
use Rattle.outbox_claims.specs.Claims.{Lawful, Entry, AllTaken}
use Rattle.outbox_claims.specs.Versions.{one, two, size_of}
use Rattle.outbox_claims.proofs.Run.{RecordRun, all-run, walk_is}
use Rattle.outbox_claims.proofs.Contents.{contents}
use Rattle.outbox_claims.proofs.Versions.{lawful-one, lawful-two}
use Rattle.outbox_claims.proofs.ReadsAsAlone.{own-version}
use Rattle.outbox_move.specs.Moves.{records_in, over_from, moved_to, move_of}
use Rattle.outbox_move.proofs.Deciding.{first-is, known_same}
use Rattle.outbox_move_claims.specs.Claims.{entries_of, records_of, AllShort, Moves, FilesMove}
use Rattle.outbox_move_claims.proofs.Rebuilt.{written, contents-long, rebuilt, taken, within, own-short, made-whole, made-entries}

-- a call on a whole file that can make the journey, with room
places : (wished fmt : Format) (file out moved : List ℕ) → format_of file ≡ fmt → walk_of fmt file ≡ given tt
    → over_from wished.limit first_place (read_all fmt file) ≡ given tt → moved_to wished fmt file ≡ moved → length moved ≤ length out
    → move_of wished file out ≡ stored_at out 0 moved
unfolding move_of
places wished fmt file out moved v w o m h = rw (v, w, o, m, le-ltb (length out) (length moved) h)

-- the file in the wished version is what its records make, also where it has that version already
moved-is : (wished fmt : Format) (file : List ℕ) (es : List Entry) → Known wished → Known fmt → entries_of (read_all fmt file) ≡ es
    → (wished ≡ fmt → file ≡ new_bytes wished ++ contents wished es) → moved_to wished fmt file ≡ new_bytes wished ++ contents wished es
unfolding moved_to
moved-is wished fmt file es kw kf e own = by-version (eqb wished.version fmt.version) refl
  where
    by-version : (t : Bool) → eqb wished.version fmt.version ≡ t
        → cond t file (new_bytes wished ++ records_in wished (read_all fmt file)) ≡ new_bytes wished ++ contents wished es
    by-version true t = own (known_same wished fmt kw kf (eqb-true wished.version fmt.version t))
    by-version false t = ap (λ l. new_bytes wished ++ l) (written wished (read_all fmt file) ∙ ap (contents wished) e)

-- a whole file begins with its version
begins : (fmt : Format) (file : List ℕ) → walk_of fmt file ≡ given tt → file ≡ new_bytes fmt ++ drop 1 file
begins fmt [] w = absurd (omega (arith, opened fmt [] (whole-version fmt [] w)))
begins fmt (b ∷ l) w = ap (λ (x : ℕ). x ∷ l) (first-is fmt (b ∷ l) w)

module _ (wished fmt : Format) (kw : Known wished) (kf : Known fmt) (lawful : Lawful wished) (mine : (l : List ℕ) → format_of (new_bytes wished ++ l) ≡ wished)
    (file : List ℕ) (v : format_of file ≡ fmt) (b : AllBytes file) (w : walk_of fmt file ≡ given tt) (short : AllShort wished.limit (entries_of (read_all fmt file))) where
  abbrev es : List Entry
  es = entries_of (read_all fmt file)

  abbrev made : List ℕ
  made = new_bytes wished ++ contents wished es

  run : RecordRun fmt file 1 (read_all fmt file)
  run = all-run fmt file (whole-version fmt file w)

  all : AllTaken wished es
  all = taken wished fmt file run short

  same-file : new_bytes fmt ++ contents fmt es ≡ file
  same-file = sym (begins fmt file w ∙ ap (λ (l : List ℕ). new_bytes fmt ++ l) (rebuilt fmt file b run (sym (walk_is fmt file) ∙ w)))

  entries : entries_of (read_all wished made) ≡ es
  entries = made-entries wished lawful es all

  there : moved_to wished fmt file ≡ made
  there = moved-is wished fmt file es kw kf refl (λ q. sym (ap (λ (x : Format). new_bytes x ++ contents x es) q ∙ same-file))

  again : moved_to fmt wished made ≡ file
  again = moved-is fmt wished made es kf kw entries (λ q. ap (λ (x : Format). new_bytes x ++ contents x es) (sym q)) ∙ same-file

  made-run : RecordRun wished made 1 (read_all wished made)
  made-run = all-run wished made (own-version wished (contents wished es))

  own : AllShort fmt.limit (entries_of (read_all wished made))
  own = rw entries (own-short fmt file run)

  long : length made ≡ 1 + size_of (head_size wished) es
  long = let n = contents-long wished es in omega (arith, n)

  module _ (out : List ℕ) (h : 1 + size_of (head_size wished) es ≤ length out) where
    done : move_of wished file out ≡ stored_at out 0 made
    done = places wished fmt file out made v w (within wished.limit fmt file run short) there (omega (arith, long))

    kept : take (1 + size_of (head_size wished) es) (move_of wished file out).buffer ≡ made
    kept =
        ap (λ s. take (1 + size_of (head_size wished) es) s.buffer) done
        ∙ ap (λ n. take n (sets out 0 made)) (sym long)
        ∙ first-bytes out made (omega (arith, long))

    moves : Moves wished file (1 + size_of (head_size wished) es) (move_of wished file out)
    moves =
        let size : 0 + length made ≡ 1 + size_of (head_size wished) es = omega (arith, long) in
        record {
          written = ap (λ s. s.told) done ∙ ap given size;
          version = ap format_of kept ∙ mine (contents wished es);
          whole = ap (walk_of wished) kept ∙ made-whole wished lawful es all;
          same = ap records_of kept
              ∙ ap (λ (x : Format). entries_of (read_all x made)) (mine (contents wished es))
              ∙ entries
              ∙ ap (λ (x : Format). entries_of (read_all x file)) (sym v);
          back = λ room k.
              ap (λ l. move_of (format_of file) l room) kept
              ∙ ap (λ (x : Format). move_of x made room) v
              ∙ places fmt wished made room file (mine (contents wished es)) (made-whole wished lawful es all) (within fmt.limit wished made made-run own) again k;
        }

mine-one : (l : List ℕ) → format_of (new_bytes version_one ++ l) ≡ version_one
unfolding format_of is_one
mine-one l = refl

mine-two : (l : List ℕ) → format_of (new_bytes version_two ++ l) ≡ version_two
unfolding format_of is_one
mine-two l = refl

pub files-move : FilesMove
unfolding FilesMove
files-move wished byte head limit one file out m h =
    moves version_one (format_of file) format.one (format-known file) lawful-one mine-one file refl m.bytes m.whole m.short out (omega (arith, h))
files-move wished byte head limit two file out m h =
    moves version_two (format_of file) format.two (format-known file) lawful-two mine-two file refl m.bytes m.whole m.short out (omega (arith, h))
