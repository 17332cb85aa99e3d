-- Reading an outbox: the record at a place, place after place, and whether all is whole.
use Rattle.std.specs.Prelude.{ℕ, zero, suc, ◌+◌, ◌-◌, Bool, cond, not, ◌&&◌, ◌||◌, List, [], ◌∷◌, eqb, leb, ltb, length, get_or, take, drop, Result, Ok, Err, Option, Some, None}
use Rattle.wire.specs.Told.{line, table}
use Rattle.wire.specs.Stream.{is_stream}
use Rattle.outbox.specs.Format.{Format, number_of, head_size, first_place}
use Rattle.outbox.specs.declared.verdict.Fault.{Fault}
use Rattle.outbox.specs.declared.verdict.Fault.TheVariants.{Version, Length, Cut, Stream}
use Rattle.outbox.specs.declared.verdict.Broken.{Broken}
use Rattle.outbox.specs.declared.judging.Judged.{Judged}
use Rattle.outbox.specs.declared.reader.ReadRefusal.{ReadRefusal}
pub use Rattle.outbox.specs.declared.reader.FoundRecord.{FoundRecord}

-- a record at a place, by its place, its stream and its payload's length
abbrev pub found_at : Format → ℕ → ℕ → ℕ → FoundRecord
found_at fmt place stream size = record {
  stream = stream;
  start = place + head_size fmt;
  size = size;
  next = place + head_size fmt + size;
}

-- what stands at a place
pub data Item : Type 0 where
  found : FoundRecord → Item
  end : Item

-- what a call tells: what was asked for, a refusal, or a refusal of the file's own bytes with its place
pub data Answer (A : Type 0) : Type 0 where
  given : A → Answer A
  refused : ℕ → Answer A
  refused_at : ℕ → ℕ → Answer A

-- 0, or the number of the refusal
abbrev pub number_in : {A : Type 0} → Answer A → ℕ
number_in (given a) = 0
number_in (refused n) = n
number_in (refused_at n place) = n

-- 40: the outbox is empty, or its version is another
unfoldable pub other_version : Format → List ℕ → Bool
other_version fmt file = eqb (length file) 0 || not (eqb (get_or file 0 0) fmt.version)

-- 15: a place that is 0 or beyond the bytes
unfoldable pub bad_place : List ℕ → ℕ → Bool
bad_place file place = eqb place 0 || ltb (length file) place

-- the length of the record at the front of some bytes: it counts the stream byte and the payload
abbrev pub length_in : Format → List ℕ → ℕ
length_in fmt rest = number_of fmt.width rest

-- 42: a length, all of whose bytes are there, that is 0 or too large
unfoldable pub bad_length : Format → List ℕ → Bool
bad_length fmt rest = leb fmt.width (length rest) && (eqb (length_in fmt rest) 0 || ltb (fmt.limit + 1) (length_in fmt rest))

-- 41: the bytes end inside the record, or inside its length
unfoldable pub cut_short : Format → List ℕ → Bool
cut_short fmt rest = ltb (length rest) (fmt.width + length_in fmt rest)

-- 43: the record's stream byte is no stream
unfoldable pub bad_stream : Format → List ℕ → Bool
bad_stream fmt rest = not (is_stream (get_or rest fmt.width 0))

-- the record at a place, from the bytes from there on
unfoldable pub record_at : Format → ℕ → List ℕ → Answer Item
record_at fmt place rest =
    table
    (line 42 (bad_length fmt rest) ∷ line 41 (cut_short fmt rest) ∷ line 43 (bad_stream fmt rest) ∷ [])
    (λ n. refused_at n place)
    (given (found (found_at fmt place (get_or rest fmt.width 0) (length_in fmt rest - 1))))

-- reading at a place: 40, 15, the end at the end, then the record
unfoldable pub read_of : Format → List ℕ → ℕ → Answer Item
read_of fmt file place =
    table
    (line 40 (other_version fmt file) ∷ [])
    (λ n. refused_at n 0)
    (table
    (line 15 (bad_place file place) ∷ [])
    refused
    (cond (eqb place (length file)) (given end) (record_at fmt place (drop place file))))

-- what a reading hands out: its answer, and the bytes that it points to
pub record HandedRecord : Type 0 where
  pub answer : Answer Item
  pub payload : List ℕ

-- the payload that an answer points to
abbrev pub payload_in : List ℕ → Answer Item → List ℕ
payload_in file (given (found f)) = take f.size (drop f.start file)
payload_in file (given end) = []
payload_in file (refused n) = []
payload_in file (refused_at n place) = []

abbrev pub handed : Answer Item → List ℕ → HandedRecord
handed answer payload = record { answer = answer; payload = payload }

-- only a record is followed by another reading, at the next place
abbrev pub onward : Answer Item → (ℕ → List HandedRecord) → List HandedRecord
onward (given (found f)) go = go f.next
onward (given end) go = []
onward (refused n) go = []
onward (refused_at n place) go = []

-- reading place after place, at most `turns` times
unfoldable pub readings : ℕ → Format → List ℕ → ℕ → List HandedRecord
readings zero fmt file place = []
readings (suc turns) fmt file place =
    let answer = read_of fmt file place in
    handed answer (payload_in file answer) ∷ onward answer (λ next. readings turns fmt file next)

-- .. from the first record on, to the end or a refusal: there are no more records than bytes
unfoldable pub read_all : Format → List ℕ → List HandedRecord
read_all fmt file = readings (suc (length file)) fmt file first_place

-- a refusal, or what follows
abbrev pub refusal_or : Answer Item → Answer (Unit {0}) → Answer (Unit {0})
refusal_or (given item) rest = rest
refusal_or (refused n) rest = refused n
refusal_or (refused_at n place) rest = refused_at n place

-- the first refusal among the answers, or that there is none
abbrev pub first_refusal : List HandedRecord → Answer (Unit {0})
first_refusal [] = given tt
first_refusal (h ∷ hs) = refusal_or h.answer (first_refusal hs)

-- the walk: all is whole, or the first refusal and its place
unfoldable pub walk_of : Format → List ℕ → Answer (Unit {0})
walk_of fmt file = first_refusal (read_all fmt file)

-- ---- what the code's answers tell, in the numbers of docs/FORMATS.md

abbrev pub fault_number : Fault → ℕ
fault_number Version = 40
fault_number Length = 42
fault_number Cut = 41
fault_number Stream = 43

abbrev pub broken_number : Broken → ℕ
broken_number broken = fault_number broken.fault

abbrev pub read_number : ReadRefusal → ℕ
read_number ReadRefusal.BadPlace = 15
read_number (ReadRefusal.Broken broken) = broken_number broken

abbrev pub told_judged : Format → ℕ → Result Judged Fault → Answer Item
told_judged fmt place (Ok judged) = given (found (found_at fmt place judged.stream judged.size))
told_judged fmt place (Err fault) = refused_at (fault_number fault) place

abbrev pub told : Result (Option FoundRecord) ReadRefusal → Answer Item
told (Ok (Some f)) = given (found f)
told (Ok None) = given end
told (Err ReadRefusal.BadPlace) = refused 15
told (Err (ReadRefusal.Broken broken)) = refused_at (broken_number broken) broken.place

abbrev pub told_walk : Result (Unit {0}) Broken → Answer (Unit {0})
told_walk (Ok whole) = given tt
told_walk (Err broken) = refused_at (broken_number broken) broken.place
