-- The claims about the outbox: what is appended is read back, also after a cut at any byte.
use Rattle.std.specs.Prelude.{ℕ, zero, suc, ◌+◌, ◌-◌, ◌^◌, ◌≤◌, ◌<◌, ◌≡◌, true, false, cond, List, [], ◌∷◌, ◌++◌, eqb, leb, length, take, drop}
use Rattle.wire.specs.Stream.{is_stream}
use Rattle.outbox.specs.Format.{Format, head_size, record_bytes, new_bytes, first_place}
use Rattle.outbox.specs.declared.reader.FoundRecord.{FoundRecord}
use Rattle.outbox.specs.Reader.{Answer, given, refused, refused_at, Item, found, end, found_at, other_version, HandedRecord, handed, payload_in, read_of, read_all, walk_of}
use Rattle.outbox.specs.Writer.{Stored, stored, new_of, append_of}

-- every record's length fits its field
abbrev pub Lawful : Format → Type 0
Lawful fmt = fmt.limit + 1 < 256 ^ fmt.width

-- a record as its sender has it
pub record Entry : Type 0 where
  pub stream : ℕ
  pub payload : List ℕ

-- one that the writer must take: said by the rules and not by the writer's own test, so that one that refuses more breaks the claims
pub record EntryTaken (fmt : Format) (e : Entry) : Type 0 where
  pub known : is_stream e.stream ≡ true
  pub short : length e.payload ≤ fmt.limit

-- the place after a record
abbrev pub after : Format → ℕ → Entry → ℕ
after fmt place e = place + head_size fmt + length e.payload

-- what reading place after place must give for some records: each at its place with its payload, then the end
abbrev pub expected : Format → ℕ → List Entry → List HandedRecord
expected fmt place [] = handed (given end) [] ∷ []
expected fmt place (e ∷ es) =
    handed (given (found (found_at fmt place e.stream (length e.payload)))) e.payload
    ∷ expected fmt (after fmt place e) es

-- ---- (a) appends, then readings

-- the place after all of some records
abbrev pub after_all : Format → ℕ → List Entry → ℕ
after_all fmt place [] = place
after_all fmt place (e ∷ es) = after_all fmt (after fmt place e) es

-- each of them is one that the writer must take
abbrev pub AllTaken : Format → List Entry → Type 0
AllTaken fmt [] = Unit {0}
AllTaken fmt (e ∷ es) = EntryTaken fmt e × AllTaken fmt es

-- an append after the used bytes that the call before it told
abbrev pub append_next : Format → Answer ℕ → List ℕ → Entry → Stored
append_next fmt (given used) buffer e = append_of fmt buffer used e.stream e.payload
append_next fmt (refused n) buffer e = stored (refused n) buffer
append_next fmt (refused_at n place) buffer e = stored (refused_at n place) buffer

-- appends one after another
abbrev pub append_all : Format → Stored → List Entry → Stored
append_all fmt s [] = s
append_all fmt s (e ∷ es) = append_all fmt (append_next fmt s.told s.buffer e) es

-- all were taken, and reading gives them back
pub record Returned (fmt : Format) (s : Stored) (es : List Entry) : Type 0 where
  pub taken : s.told ≡ given (after_all fmt first_place es)
  pub read : read_all fmt (take (after_all fmt first_place es) s.buffer) ≡ expected fmt first_place es

-- from a new outbox, any records that fit are read back, in order, and then the end
unfoldable pub RecordsReturn : Type 0
RecordsReturn =
    (fmt : Format) → Lawful fmt → (buffer : List ℕ) (es : List Entry) → AllTaken fmt es → after_all fmt first_place es ≤ length buffer
    → Returned fmt (append_all fmt (new_of fmt buffer) es) es

-- ---- (b) a cut at any byte

-- a reading of a whole outbox when only some bytes are kept: a record that lies whole in them stays; at the first that does not
-- stands the end where nothing of it is kept, and else 41 at its place
abbrev pub cut_by : ℕ → ℕ → HandedRecord → Answer Item → (ℕ → List HandedRecord) → List HandedRecord
cut_by kept place h (given (found f)) go =
    cond (leb f.next kept)
    (h ∷ go f.next)
    (handed (cond (eqb place kept) (given end) (refused_at 41 place)) [] ∷ [])
cut_by kept place h (given end) go = h ∷ []
cut_by kept place h (refused n) go = h ∷ []
cut_by kept place h (refused_at n p) go = h ∷ []

-- the readings from a place on
abbrev pub cut_from : ℕ → ℕ → List HandedRecord → List HandedRecord
cut_from kept place [] = []
cut_from kept place (h ∷ hs) = cut_by kept place h h.answer (λ next. cut_from kept next hs)

-- .. from the first record on; 40 where nothing is kept
abbrev pub cut_at : ℕ → List HandedRecord → List HandedRecord
cut_at zero hs = handed (refused_at 40 0) [] ∷ []
cut_at (suc k) hs = cut_from (suc k) first_place hs

-- cut at any byte, a whole outbox still gives every record that lies whole in what is kept, and then the end, or 41 at the record that was
-- cut; and so does one that was made by appends
pub record CutsAreFound : Type 0 where
  pub whole : (fmt : Format) (file : List ℕ) (kept : ℕ) → walk_of fmt file ≡ given tt → read_all fmt (take kept file) ≡ cut_at kept (read_all fmt file)
  pub appended : (fmt : Format) → Lawful fmt → (buffer : List ℕ) (es : List Entry) → AllTaken fmt es → after_all fmt first_place es ≤ length buffer
      → (kept : ℕ)
      → read_all fmt (take kept (take (after_all fmt first_place es) (append_all fmt (new_of fmt buffer) es).buffer)) ≡ cut_at kept (expected fmt first_place es)

-- ---- (c) appending after a cut

-- the used bytes that a box goes on with: all that is kept, or up to the place where the walk is refused
abbrev pub usable : Answer (Unit {0}) → List ℕ → ℕ
usable (given whole) file = length file
usable (refused n) file = 0
usable (refused_at n place) file = place

-- a reading that gives a record
abbrev pub record_of : HandedRecord → Answer Item → List HandedRecord
record_of h (given (found f)) = h ∷ []
record_of h (given end) = []
record_of h (refused n) = []
record_of h (refused_at n place) = []

-- the records among the readings
abbrev pub records_of : List HandedRecord → List HandedRecord
records_of [] = []
records_of (h ∷ hs) = record_of h h.answer ++ records_of hs

-- a record appended: taken, all is whole, and after the records of before the new one is read, then the end
pub record Resumed (fmt : Format) (before : List HandedRecord) (used : ℕ) (e : Entry) (s : Stored) : Type 0 where
  pub taken : s.told ≡ given (after fmt used e)
  pub whole : walk_of fmt (take (after fmt used e) s.buffer) ≡ given tt
  pub read : read_all fmt (take (after fmt used e) s.buffer) ≡ records_of before ++ expected fmt used (e ∷ [])

-- after a cut anywhere but before the version byte, a record appended after what is usable makes a whole outbox again
unfoldable pub AppendsAfterCut : Type 0
AppendsAfterCut =
    (fmt : Format) → Lawful fmt → (file : List ℕ) (kept : ℕ) → 1 ≤ kept → walk_of fmt file ≡ given tt
    → (room : List ℕ) (e : Entry) → EntryTaken fmt e
    → let left = take kept file in
    let used = usable (walk_of fmt left) left in
    after fmt used e ≤ length (left ++ room)
    → Resumed fmt (read_all fmt left) used e (append_of fmt (left ++ room) used e.stream e.payload)

-- ---- (d) a record in an outbox of its own

-- a record appended to a file and to a new outbox: both take it, and behind the file stands what stands behind the version byte
pub record SameBytes (fmt : Format) (file : List ℕ) (e : Entry) (here alone : Stored) : Type 0 where
  pub taken : here.told ≡ given (after fmt (length file) e)
  pub taken-alone : alone.told ≡ given (after fmt first_place e)
  pub same : take (after fmt (length file) e) here.buffer ≡ file ++ drop first_place (take (after fmt first_place e) alone.buffer)

-- what is appended to a whole outbox is what is appended to a new one
unfoldable pub AppendsAsAlone : Type 0
AppendsAsAlone =
    (fmt : Format) (file room : List ℕ) → walk_of fmt file ≡ given tt → (own : List ℕ) (e : Entry) → EntryTaken fmt e
    → after fmt (length file) e ≤ length (file ++ room) → after fmt first_place e ≤ length own
    → SameBytes fmt file e (append_of fmt (file ++ room) (length file) e.stream e.payload) (append_all fmt (new_of fmt own) (e ∷ []))

-- ---- (e) the bytes from a place on in an outbox of their own

-- what is told, with its places d bytes further on
abbrev pub moved_found : ℕ → FoundRecord → FoundRecord
moved_found d f = record { stream = f.stream; start = f.start + d; size = f.size; next = f.next + d }

abbrev pub moved_answer : ℕ → Answer Item → Answer Item
moved_answer d (given (found f)) = given (found (moved_found d f))
moved_answer d (given end) = given end
moved_answer d (refused n) = refused n
moved_answer d (refused_at n place) = refused_at n (place + d)

abbrev pub moved : ℕ → HandedRecord → HandedRecord
moved d h = handed (moved_answer d h.answer) h.payload

abbrev pub all_moved : ℕ → List HandedRecord → List HandedRecord
all_moved d [] = []
all_moved d (h ∷ hs) = moved d h ∷ all_moved d hs

-- one reading: its answer, and the bytes that it points to
unfoldable pub read_at : Format → List ℕ → ℕ → HandedRecord
read_at fmt file place = handed (read_of fmt file place) (payload_in file (read_of fmt file place))

-- the version byte, and after it the bytes from a place on
abbrev pub from_place : Format → List ℕ → ℕ → List ℕ
from_place fmt file place = new_bytes fmt ++ drop place file

-- what is read at a place is read in an outbox of its own: the longest record's bytes are enough for it; where a record stands it is that one;
-- and where the first bytes of the file, any number of them, are whole up to the place, the records in them and then all that
-- the outbox of its own gives are all that the file gives
pub record ReadAlone (fmt : Format) (file : List ℕ) (place : ℕ) : Type 0 where
  pub one : (n : ℕ) → head_size fmt + fmt.limit ≤ n
      → read_at fmt file place ≡ moved (place - first_place) (read_at fmt (new_bytes fmt ++ take n (drop place file)) first_place)
  pub stands : Lawful fmt → (e : Entry) → EntryTaken fmt e → (more : List ℕ) → drop place file ≡ record_bytes fmt e.stream e.payload ++ more
      → read_at fmt (from_place fmt file place) first_place ≡ handed (given (found (found_at fmt first_place e.stream (length e.payload)))) e.payload
  pub rest : (n : ℕ) → 1 ≤ n → usable (walk_of fmt (take n file)) (take n file) ≡ place
      → read_all fmt file ≡ records_of (read_all fmt (take n file)) ++ all_moved (place - first_place) (read_all fmt (from_place fmt file place))

unfoldable pub ReadsAsAlone : Type 0
ReadsAsAlone =
    (fmt : Format) (file : List ℕ) → other_version fmt file ≡ false → (place : ℕ) → first_place ≤ place → place ≤ length file
    → ReadAlone fmt file place
