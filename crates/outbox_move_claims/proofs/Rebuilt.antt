-- A whole file is what its records make, and records make a whole file.
use Prim.Native.Nat.{ℕ, suc, ◌+◌, ◌-◌, ◌≤◌}
use mathlib.Core.Path.{◌≡◌, refl, sym, ap, ◌∙◌}
use mathlib.Core.List.{List, [], ◌∷◌, ◌++◌, append_assoc}
use native.Mathlib.Omega.{arith}
use lib.ListN.{length, take, drop, get_or, length-append, length-drop, take-append-drop, drop_of_length-le}
use lib.Seq.{drop-cons, drop-drop, length-take-le}
use borrow.Author.Tests.{le-ltb, ltb-false}
use mathlib.Core.Bool.{Bool, true, false, cond}
use lib.Dec.{ltb}
use Rattle.wire.specs.Bytes.{AllBytes}
use Rattle.outbox.specs.Format.{Format, head_size, bytes_of, record_bytes, new_bytes}
use Rattle.outbox.specs.Reader.{Answer, Item, given, refused, refused_at, found, end, HandedRecord, length_in, read_all, first_refusal, walk_of}
use Rattle.outbox_claims.specs.Claims.{Lawful, Entry, AllTaken, after, expected}
use Rattle.outbox_claims.specs.Versions.{size_of}
use Rattle.outbox.proofs.Record.{clash, Stands, found-stands, found-spans}
use Rattle.outbox.proofs.Place.{found_within}
use Rattle.outbox.proofs.Stored.{length-record}
use Rattle.outbox_claims.proofs.Run.{RecordRun, ends, stops, goes, run-all, walk_is}
use Rattle.outbox_claims.proofs.Contents.{contents, contents-run}
use Rattle.outbox_claims.proofs.CutsAreFound.{expected-passes}
use Rattle.outbox_claims.proofs.ReadsAsAlone.{own-version}
use Rattle.outbox_move.specs.Moves.{records_in, over_from}
use Rattle.outbox_move_claims.specs.Claims.{entries_of, AllShort}
use Rattle.outbox_move_claims.proofs.Numbers.{bytes-number, bytes_drop}

-- ---- the records' bytes

written-record : (fmt : Format) (payload : List ℕ) (a : Answer Item) (hs : List HandedRecord) → records_in fmt hs ≡ contents fmt (entries_of hs)
    → records_in fmt (record { answer = a; payload = payload } ∷ hs) ≡ contents fmt (entries_of (record { answer = a; payload = payload } ∷ hs))
written-record fmt payload (given (found f)) hs e = ap (λ l. record_bytes fmt f.stream payload ++ l) e
written-record fmt payload (given end) hs e = e
written-record fmt payload (refused n) hs e = e
written-record fmt payload (refused_at n p) hs e = e

pub written : (fmt : Format) (hs : List HandedRecord) → records_in fmt hs ≡ contents fmt (entries_of hs)
written fmt [] = refl
written fmt (h ∷ hs) = written-record fmt h.payload h.answer hs (written fmt hs)

pub contents-long : (fmt : Format) (es : List Entry) → length (contents fmt es) ≡ size_of (head_size fmt) es
contents-long fmt [] = refl
contents-long fmt (e ∷ es) = rw (length-append, length-record fmt e.stream e.payload, contents-long fmt es)

-- ---- a file is what its records make

-- a record that stands at the front is its own bytes
record-again : (fmt : Format) (rest : List ℕ) → Stands fmt rest → AllBytes rest
    → rest ≡ record_bytes fmt (get_or rest fmt.width 0) (take (length_in fmt rest - 1) (drop (head_size fmt) rest)) ++ drop (head_size fmt + (length_in fmt rest - 1)) rest
unfolding record_bytes
record-again fmt rest s b =
    let w = fmt.width in
    let n = length_in fmt rest in
    let more = drop (head_size fmt) rest in
    let long : length (take (n - 1) more) + 1 ≡ n = rw (length-take-le (n - 1) more (rw length-drop (omega (arith, s.inside, s.positive)))) (omega (arith, s.positive)) in
    let field : bytes_of w n ≡ take w rest = bytes-number w rest b (omega (arith, s.inside)) in
    let stream : drop w rest ≡ get_or rest w 0 ∷ more = drop-cons rest w 0 (omega (arith, s.inside, s.positive)) ∙ rw (next w) in
    let payload : more ≡ take (n - 1) more ++ drop (head_size fmt + (n - 1)) rest = sym (take-append-drop (n - 1) more) ∙ rw (drop-drop (n - 1) (head_size fmt) rest) in
    rw (long, field, append_assoc) (sym (take-append-drop w rest) ∙ ap (λ (l : List ℕ). take w rest ++ l) (stream ∙ ap (λ (l : List ℕ). get_or rest w 0 ∷ l) payload))
  where
    next : (w : ℕ) → suc w ≡ w + 1
    next w = omega arith

pub rebuilt : (fmt : Format) (file : List ℕ) → AllBytes file → {place : ℕ} {hs : List HandedRecord} → RecordRun fmt file place hs → first_refusal hs ≡ given tt
    → drop place file ≡ contents fmt (entries_of hs)
rebuilt fmt file b (ends place e) w = drop_of_length-le file {i = place} (omega (arith, e))
rebuilt fmt file b (stops place inside e) w = absurd (clash (cc))
rebuilt fmt file b (goes place {f = f} {payload = payload} {hs = hs} inside e p r) w =
    let rest = drop place file in
    let s = found-stands fmt place rest f e in
    let later = rebuilt fmt file b r w in
    let next : place + (head_size fmt + (length_in fmt rest - 1)) ≡ f.next = rw s.1 (omega arith) in
    let at_next : drop (head_size fmt + (length_in fmt rest - 1)) rest ≡ drop f.next file = drop-drop (head_size fmt + (length_in fmt rest - 1)) place file ∙ rw next in
    let same : payload ≡ take (length_in fmt rest - 1) (drop (head_size fmt) rest) = p ∙ rw s.1 (rw (drop-drop (head_size fmt) place file) refl) in
    let stream : f.stream ≡ get_or rest fmt.width 0 = rw s.1 in
    record-again fmt rest s.0 (bytes_drop place file b) ∙ rw (at_next, later, same, stream)

-- ---- a version with the limit takes its records

pub taken : (wished fmt : Format) (file : List ℕ) {place : ℕ} {hs : List HandedRecord} → RecordRun fmt file place hs → AllShort wished.limit (entries_of hs)
    → AllTaken wished (entries_of hs)
taken wished fmt file (ends place e) o = tt
taken wished fmt file (stops place inside e) o = tt
taken wished fmt file (goes place {f = f} inside e p r) o =
    let s = found-stands fmt place (drop place file) f e in
    (record { known = rw s.1 s.0.known; short = omega (arith, o.0) }, taken wished fmt file r o.1)

-- .. and are not over it
pub within : (limit : ℕ) (fmt : Format) (file : List ℕ) {place : ℕ} {hs : List HandedRecord} → RecordRun fmt file place hs → AllShort limit (entries_of hs)
    → over_from limit place hs ≡ given tt
within limit fmt file (ends place e) o = refl
within limit fmt file (stops place inside e) o = refl
within limit fmt file (goes place {f = f} {payload = payload} inside e p r) o =
    let span = found-spans fmt place (drop place file) f e in
    let ends-in = found_within fmt file place f (omega arith) e in
    let size : length payload ≡ f.size = rw p (length-take-le f.size (drop f.start file) (rw length-drop (omega (arith, span, ends-in.1)))) in
    rw (le-ltb limit f.size (omega (arith, size, o.0))) (within limit fmt file r o.1)

-- its own records are within its own limit
pub own-short : (fmt : Format) (file : List ℕ) {place : ℕ} {hs : List HandedRecord} → RecordRun fmt file place hs → AllShort fmt.limit (entries_of hs)
own-short fmt file (ends place e) = tt
own-short fmt file (stops place inside e) = tt
own-short fmt file (goes place {f = f} {payload = payload} inside e p r) =
    let s = found-stands fmt place (drop place file) f e in
    let span = found-spans fmt place (drop place file) f e in
    let ends-in = found_within fmt file place f (omega arith) e in
    let size : length payload ≡ f.size = rw p (length-take-le f.size (drop f.start file) (rw length-drop (omega (arith, span, ends-in.1)))) in
    let short : f.size ≤ fmt.limit = rw s.1 (omega (arith, s.0.short)) in
    (omega (arith, size, short), own-short fmt file r)

-- ---- records make a whole file

expected-entries : (fmt : Format) (place : ℕ) (es : List Entry) → entries_of (expected fmt place es) ≡ es
expected-entries fmt place [] = refl
expected-entries fmt place (e ∷ es) = rw (expected-entries fmt (after fmt place e) es)

module _ (fmt : Format) (lawful : Lawful fmt) (es : List Entry) (all : AllTaken fmt es) where
  abbrev made : List ℕ
  made = new_bytes fmt ++ contents fmt es

  made-read : read_all fmt made ≡ expected fmt 1 es
  made-read = run-all fmt made (own-version fmt (contents fmt es)) (contents-run fmt lawful es all (new_bytes fmt))

  pub made-whole : walk_of fmt made ≡ given tt
  made-whole = walk_is fmt made ∙ rw made-read (expected-passes fmt 1 es)

  pub made-entries : entries_of (read_all fmt made) ≡ es
  made-entries = rw made-read (expected-entries fmt 1 es)

-- a file that is not 46 has no payload over the limit
passed : (t : Bool) (a : Answer (Unit {0})) (place : ℕ) → cond t (refused_at 46 place) a ≡ given tt → (t ≡ false) × (a ≡ given tt)
passed true a place e = absurd (clash (cc))
passed false a place e = (refl, e)

pub not-over : (limit : ℕ) (fmt : Format) (file : List ℕ) {place : ℕ} {hs : List HandedRecord} → RecordRun fmt file place hs → over_from limit place hs ≡ given tt
    → AllShort limit (entries_of hs)
not-over limit fmt file (ends place e) o = tt
not-over limit fmt file (stops place inside e) o = tt
not-over limit fmt file (goes place {f = f} {payload = payload} {hs = hs} inside e p r) o =
    let span = found-spans fmt place (drop place file) f e in
    let ends-in = found_within fmt file place f (omega arith) e in
    let size : length payload ≡ f.size = rw p (length-take-le f.size (drop f.start file) (rw length-drop (omega (arith, span, ends-in.1)))) in
    let both = passed (ltb limit f.size) (over_from limit f.next hs) place o in
    (omega (arith, size, ltb-false limit f.size both.0), not-over limit fmt file r both.1)
