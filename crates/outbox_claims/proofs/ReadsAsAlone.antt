-- Claim (e): the bytes from a place on in an outbox of their own.
use Prim.Native.Nat.{ℕ, ◌+◌, ◌-◌, ◌≤◌, ◌<◌}
use mathlib.Core.Path.{◌≡◌, refl, sym, ap, ◌∙◌}
use mathlib.Core.Bool.{false}
use mathlib.Core.List.{List, ◌++◌}
use native.Mathlib.Decide.{dec_lt}
use native.Mathlib.Omega.{arith}
use lib.ListN.{length, take, drop, length-append, length-drop, length-take, take-append-drop}
use lib.Seq.{length-take-le, take-take}
use Rattle.outbox.specs.Format.{Format, head_size, record_bytes, new_bytes}
use Rattle.outbox.specs.Reader.{Answer, Item, given, found, found_at, handed, payload_in, other_version, length_in, record_at, read_of, read_all, walk_of}
use Rattle.outbox_claims.specs.Claims.{Lawful, Entry, EntryTaken, usable, records_of, moved_answer, moved, all_moved, read_at, from_place, ReadsAsAlone}
use Rattle.outbox.proofs.Record.{View, whole, broken, view}
use Rattle.outbox.proofs.Place.{right-place, read-inside, read-end, version-kept, version-more}
use Rattle.outbox_claims.proofs.Run.{RecordRun, all-run, run-all}
use Rattle.outbox_claims.proofs.Cut.{part_same}
use Rattle.outbox.proofs.Stored.{length-record}
use Rattle.outbox_claims.proofs.Contents.{entry_read, entry-payload}
use Rattle.outbox_claims.proofs.Append.{bounds, onward}
use Rattle.outbox_claims.proofs.RecordsReturn.{new-version}
use Rattle.outbox_claims.proofs.Moved.{record-moved, record-taken, rest-same, run_moved}

-- the version, with any bytes after it
pub own-version : (fmt : Format) (rest : List ℕ) → other_version fmt (new_bytes fmt ++ rest) ≡ false
own-version fmt rest = version-more fmt (new_bytes fmt) rest (new-version fmt)

-- the first record of bytes behind the version
read_first : (fmt : Format) (rest : List ℕ) → 1 ≤ length rest → read_of fmt (new_bytes fmt ++ rest) 1 ≡ record_at fmt 1 rest
read_first fmt rest h =
    read-inside fmt (new_bytes fmt ++ rest) 1 (own-version fmt rest) (right-place (new_bytes fmt ++ rest) 1 (omega arith) (omega arith)) (omega arith)

module _ (fmt : Format) (file : List ℕ) (v : other_version fmt file ≡ false) (place : ℕ) (first : 1 ≤ place) (inside : place ≤ length file) where
  left : length (drop place file) ≡ length file - place
  left = length-drop place file

  -- what stands before the place is so much longer than the version byte
  longer : length (take place file) ≡ 1 + (place - 1)
  longer = length-take-le place file inside ∙ omega arith

  from-there : (start : ℕ) → 1 ≤ start → drop (start + (place - 1)) file ≡ drop start (from_place fmt file place)
  from-there start h =
      ap (drop (start + (place - 1))) (sym (take-append-drop place file))
      ∙ rest-same fmt (new_bytes fmt) (take place file) (drop place file) (place - 1) longer start h

  one : (n : ℕ) → head_size fmt + fmt.limit ≤ n
      → read_at fmt file place ≡ moved (place - 1) (read_at fmt (new_bytes fmt ++ take n (drop place file)) 1)
  unfolding read_at
  one n enough = by_place (dec_lt place (length file))
    where
      some : List ℕ
      some = take n (drop place file)

      -- more than what is taken of the rest makes no difference to a part of it
      part : (start size : ℕ) → start + size ≤ length (new_bytes fmt ++ some) → take size (drop start (from_place fmt file place)) ≡ take size (drop start (new_bytes fmt ++ some))
      part start size h =
          ap (λ l. take size (drop start (new_bytes fmt ++ l))) (sym (take-append-drop n (drop place file)))
          ∙ part_same (new_bytes fmt ++ some) (drop n (drop place file)) start size h

      by-view : (a : Answer Item) → View fmt 1 some a
          → handed (moved_answer (place - 1) a) (payload_in file (moved_answer (place - 1) a)) ≡ moved (place - 1) (handed a (payload_in (new_bytes fmt ++ some) a))
      by-view a (whole s) =
          rw (from-there (1 + head_size fmt) (omega arith), part (1 + head_size fmt) (length_in fmt some - 1) (omega (arith, s.inside, s.positive)))
      by-view a (broken k) = refl

      stood : place < length file → read_of fmt file place ≡ moved_answer (place - 1) (record_at fmt 1 some)
      stood h =
          read-inside fmt file place v (right-place file place first inside) (omega arith)
          ∙ sym (record-taken fmt (drop place file) n enough place)
          ∙ ap (λ p. record_at fmt p some) (omega arith)
          ∙ record-moved fmt some 1 (place - 1)

      by_place : Dec (place < length file)
          → handed (read_of fmt file place) (payload_in file (read_of fmt file place))
          ≡ moved (place - 1) (handed (read_of fmt (new_bytes fmt ++ some) 1) (payload_in (new_bytes fmt ++ some) (read_of fmt (new_bytes fmt ++ some) 1)))
      by_place (yes h) =
          let some-there : 1 ≤ length some = simp length-take (omega (arith, left)) in
          rw (stood h, read_first fmt some some-there) (by-view (record_at fmt 1 some) (view fmt some 1))
      by_place (no h) =
          let none : 1 ≡ length (new_bytes fmt ++ some) = simp length-take (omega (arith, left)) in
          rw (read-end fmt file place v first (omega arith), read-end fmt (new_bytes fmt ++ some) 1 (own-version fmt some) (omega arith) none)

  stands : Lawful fmt → (e : Entry) → EntryTaken fmt e → (more : List ℕ) → drop place file ≡ record_bytes fmt e.stream e.payload ++ more
      → read_at fmt (from_place fmt file place) 1 ≡ handed (given (found (found_at fmt 1 e.stream (length e.payload)))) e.payload
  unfolding read_at
  stands lawful e takes more there =
      let rest = record_bytes fmt e.stream e.payload ++ more in
      let here : read_of fmt (new_bytes fmt ++ rest) 1 ≡ given (found (found_at fmt 1 e.stream (length e.payload)))
      = read_first fmt rest (rw (length-append, length-record) (omega arith)) ∙ entry_read fmt e (new_bytes fmt) more lawful takes in
      rw (there, here) (rw (← entry-payload fmt e (new_bytes fmt) more))

  rest : (n : ℕ) → 1 ≤ n → usable (walk_of fmt (take n file)) (take n file) ≡ place
      → read_all fmt file ≡ records_of (read_all fmt (take n file)) ++ all_moved (place - 1) (read_all fmt (from_place fmt file place))
  rest n some stop = run-all fmt file v (rw joined at (onward fmt (take n file) kept place stop (drop place file) there))
    where
      kept : other_version fmt (take n file) ≡ false
      kept = version-kept fmt file n some v

      joined : take place (take n file) ++ drop place file ≡ file
      joined =
          let within = (bounds fmt (take n file) kept place stop).1 in
          ap (λ l. l ++ drop place file) (take-take place n file (omega (arith, simp length-take at within))) ∙ take-append-drop place file

      moved_on : RecordRun fmt (take place file ++ drop place file) (1 + (place - 1)) (all_moved (place - 1) (read_all fmt (from_place fmt file place)))
      moved_on =
          run_moved fmt (new_bytes fmt) (take place file) (drop place file) (place - 1) longer (omega arith)
          (all-run fmt (from_place fmt file place) (own-version fmt (drop place file)))

      there : RecordRun fmt (take place (take n file) ++ drop place file) place (all_moved (place - 1) (read_all fmt (from_place fmt file place)))
      there = let at : 1 + (place - 1) ≡ place = omega arith in rw joined (rw (at, take-append-drop) at moved_on)

pub reads-as-alone : ReadsAsAlone
unfolding ReadsAsAlone
reads-as-alone fmt file v place first inside =
    record { one = λ n enough. one fmt file v place first inside n (omega arith); stands = stands fmt file v place first inside; rest = rest fmt file v place first inside }
