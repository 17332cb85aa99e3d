-- An outbox file written in a wished version.
use Rattle.std.specs.Prelude.{ℕ, ◌+◌, cond, List, [], ◌∷◌, ◌++◌, eqb, ltb, length, Result, Ok, Err, Option, Some, None}
use Rattle.wire.specs.Told.{line, table}
use Rattle.outbox.specs.Format.{Format, format_of, record_bytes, new_bytes, first_place}
use Rattle.outbox.specs.declared.reader.FoundRecord.{FoundRecord}
use Rattle.outbox.specs.Reader.{Answer, given, refused, refused_at, Item, found, end, HandedRecord, read_all, walk_of, broken_number}
use Rattle.outbox.specs.Writer.{Stored, stored, stored_at, if_whole}
use Rattle.outbox_move.specs.declared.MoveRefusal.{MoveRefusal}
use Rattle.outbox_move.specs.declared.TooLong.{TooLong}

-- the bytes of a record that was read, in a format; no other reading has any
abbrev pub record_in : Format → List ℕ → Answer Item → List ℕ
record_in fmt payload (given (found f)) = record_bytes fmt f.stream payload
record_in fmt payload (given end) = []
record_in fmt payload (refused n) = []
record_in fmt payload (refused_at n place) = []

-- .. of all records that were read, in order
abbrev pub records_in : Format → List HandedRecord → List ℕ
records_in fmt [] = []
records_in fmt (h ∷ hs) = record_in fmt h.payload h.answer ++ records_in fmt hs

-- 46: the first record whose payload is over a limit, told with its place
abbrev pub over_by : ℕ → ℕ → Answer Item → (ℕ → Answer (Unit {0})) → Answer (Unit {0})
over_by limit place (given (found f)) go = cond (ltb limit f.size) (refused_at 46 place) (go f.next)
over_by limit place (given end) go = given tt
over_by limit place (refused n) go = given tt
over_by limit place (refused_at n p) go = given tt

abbrev pub over_from : ℕ → ℕ → List HandedRecord → Answer (Unit {0})
over_from limit place [] = given tt
over_from limit place (h ∷ hs) = over_by limit place h.answer (λ next. over_from limit next hs)

-- a file in the wished version; one that has it already stays as it is
unfoldable pub moved_to : Format → Format → List ℕ → List ℕ
moved_to wished fmt file = cond (eqb wished.version fmt.version) file (new_bytes wished ++ records_in wished (read_all fmt file))

-- 14, or some bytes at the front of the output
abbrev pub placed : List ℕ → List ℕ → Stored
placed out bytes = table (line 14 (ltb (length out) (length bytes)) ∷ []) (λ n. stored (refused n) out) (stored_at out 0 bytes)

-- the file's own first refusal, then 46, then 14
unfoldable pub move_of : Format → List ℕ → List ℕ → Stored
move_of wished file out =
    let fmt = format_of file in
    if_whole
    (walk_of fmt file)
    out
    (if_whole (over_from wished.limit first_place (read_all fmt file)) out (placed out (moved_to wished fmt file)))

-- ---- what the passes tell

-- a record that was read, and nothing else
abbrev pub record_only : Answer Item → Answer Item
record_only (given (found f)) = given (found f)
record_only (given end) = given end
record_only (refused n) = given end
record_only (refused_at n place) = given end

abbrev pub size_unless : Answer (Unit {0}) → ℕ → Answer ℕ
size_unless (given none) n = given n
size_unless (refused n) k = refused n
size_unless (refused_at n place) k = refused_at n place

-- 46 from a place on, or n bytes and those of the records
unfoldable pub count_of : Format → ℕ → ℕ → List HandedRecord → Answer ℕ
count_of wished place n hs = size_unless (over_from wished.limit place hs) (n + length (records_in wished hs))

-- ---- what the code's answers tell, in the numbers of docs/FORMATS.md

abbrev pub told_next : Option FoundRecord → Answer Item
told_next (Some f) = given (found f)
told_next None = given end

abbrev pub told_count : Result ℕ TooLong → Answer ℕ
told_count (Ok n) = given n
told_count (Err too_long) = refused_at 46 too_long.place

abbrev pub move_number : MoveRefusal → ℕ
move_number MoveRefusal.NoRoom = 14
move_number (MoveRefusal.TooLong too_long) = 46
move_number (MoveRefusal.Broken broken) = broken_number broken

abbrev pub told : Result ℕ MoveRefusal → Answer ℕ
told (Ok n) = given n
told (Err MoveRefusal.NoRoom) = refused 14
told (Err (MoveRefusal.TooLong too_long)) = refused_at 46 too_long.place
told (Err (MoveRefusal.Broken broken)) = refused_at (broken_number broken) broken.place
