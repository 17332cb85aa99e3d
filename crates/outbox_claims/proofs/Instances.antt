-- An instance of each claim, by computation: a format of lengths of two bytes and payloads of up to four, two records, a cut in the second.
use mathlib.Core.Path.{◌≡◌, refl}
use mathlib.Core.List.{List, [], ◌∷◌, ◌++◌}
use Prim.Native.Nat.{ℕ}
use lib.ListN.{take, drop}
use Rattle.wire.specs.Stream.{is_stream}
use Rattle.outbox.specs.Format.{Format, number_of, bytes_of, record_bytes}
use Rattle.outbox.specs.Reader.{HandedRecord, given, refused_at, found, end, handed, other_version, bad_place, bad_length, cut_short, bad_stream, record_at, read_of, readings, read_all, walk_of}
use Rattle.outbox.specs.Writer.{stored, new_of, bad_record, append_of}
use Rattle.outbox_claims.specs.Claims.{Entry, expected, append_all, cut_at, usable, moved, read_at}

abbrev small : Format
small = record { version = 1; width = 2; limit = 4 }

-- two records: for Alexa and for the OTA stream
abbrev ab : Entry
ab = record { stream = 6; payload = 65 ∷ 66 ∷ [] }

abbrev ota : Entry
ota = record { stream = 2; payload = 7 ∷ 8 ∷ 9 ∷ [] }

-- the bytes of an outbox of both
abbrev file : List ℕ
file = 1 ∷ 0 ∷ 3 ∷ 6 ∷ 65 ∷ 66 ∷ 0 ∷ 4 ∷ 2 ∷ 7 ∷ 8 ∷ 9 ∷ []

abbrev record-at : ℕ → ℕ → ℕ → ℕ → List ℕ → HandedRecord
record-at stream start size next payload = handed (given (found (record { stream = stream; start = start; size = size; next = next }))) payload

-- the records return
appended : append_all small (new_of small (3 ∷ 3 ∷ 3 ∷ 3 ∷ 3 ∷ 3 ∷ 3 ∷ 3 ∷ 3 ∷ 3 ∷ 3 ∷ 3 ∷ 3 ∷ [])) (ab ∷ ota ∷ []) ≡ stored (given 12) (file ++ (3 ∷ []))
unfolding new_of append_of bad_record is_stream walk_of read_all readings read_of other_version bad_place record_at bad_length cut_short bad_stream number_of bytes_of record_bytes
appended = refl

abbrev both : List HandedRecord
both = record-at 6 4 2 6 (65 ∷ 66 ∷ []) ∷ record-at 2 9 3 12 (7 ∷ 8 ∷ 9 ∷ []) ∷ handed (given end) [] ∷ []

returned : (read_all small file ≡ both) × (expected small 1 (ab ∷ ota ∷ []) ≡ both)
unfolding is_stream read_all readings read_of other_version bad_place record_at bad_length cut_short bad_stream number_of
returned = (refl, refl)

-- the cut is found: of the second record two bytes are kept
abbrev one : List HandedRecord
one = record-at 6 4 2 6 (65 ∷ 66 ∷ []) ∷ handed (refused_at 41 6) [] ∷ []

cut : (read_all small (take 8 file) ≡ one) × (cut_at 8 both ≡ one)
unfolding is_stream read_all readings read_of other_version bad_place record_at bad_length cut_short bad_stream number_of
cut = (refl, refl)

-- after the cut an append goes where the second record stood
resumes : usable (walk_of small (take 8 file)) (take 8 file) ≡ 6
unfolding is_stream walk_of read_all readings read_of other_version bad_place record_at bad_length cut_short bad_stream number_of
resumes = refl

resumed : append_of small (take 8 file ++ (3 ∷ 3 ∷ 3 ∷ [])) 6 0 (5 ∷ []) ≡ stored (given 10) (1 ∷ 0 ∷ 3 ∷ 6 ∷ 65 ∷ 66 ∷ 0 ∷ 2 ∷ 0 ∷ 5 ∷ 3 ∷ [])
unfolding append_of bad_record is_stream walk_of read_all readings read_of other_version bad_place record_at bad_length cut_short bad_stream number_of bytes_of record_bytes
resumed = refl

-- in an outbox of its own the second record has the bytes that it has in the file ..
alone : append_all small (new_of small (3 ∷ 3 ∷ 3 ∷ 3 ∷ 3 ∷ 3 ∷ 3 ∷ 3 ∷ [])) (ota ∷ []) ≡ stored (given 7) ((1 ∷ drop 6 file) ++ (3 ∷ []))
unfolding new_of append_of bad_record is_stream walk_of read_all readings read_of other_version bad_place record_at bad_length cut_short bad_stream number_of bytes_of record_bytes
alone = refl

-- .. and is read as in the file, five bytes further on
read-alone : (read_at small (1 ∷ drop 6 file) 1 ≡ record-at 2 4 3 7 (7 ∷ 8 ∷ 9 ∷ [])) × (read_at small file 6 ≡ moved 5 (read_at small (1 ∷ drop 6 file) 1))
unfolding read_at is_stream read_of other_version bad_place record_at bad_length cut_short bad_stream number_of
read-alone = (refl, refl)
