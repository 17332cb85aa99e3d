-- Writing an outbox into a lent buffer: a new one, and a record after the used bytes.
use Rattle.std.specs.Prelude.{ℕ, ◌+◌, ◌-◌, Bool, not, ◌||◌, List, [], ◌∷◌, ltb, length, take, Result, Ok, Err}
use Rattle.std.proofs.lemmas.List.Edits.{sets}
use Rattle.wire.specs.Told.{line, table}
use Rattle.wire.specs.Stream.{is_stream}
use Rattle.outbox.specs.Format.{Format, record_bytes, new_bytes}
use Rattle.outbox.specs.Reader.{Answer, given, refused, refused_at, broken_number, other_version, walk_of}
use Rattle.outbox.specs.declared.writer.NoRoom.{NoRoom}
use Rattle.outbox.specs.declared.writer.AppendRefusal.{AppendRefusal}

-- what a writer tells (the number of used bytes), and the lent buffer afterwards
pub record Stored : Type 0 where
  pub told : Answer ℕ
  pub buffer : List ℕ

abbrev pub stored : Answer ℕ → List ℕ → Stored
stored told buffer = record { told = told; buffer = buffer }

-- some bytes written at a place of the buffer: they are the last of the used ones
abbrev pub stored_at : List ℕ → ℕ → List ℕ → Stored
stored_at buffer place bytes = stored (given (place + length bytes)) (sets buffer place bytes)

-- a new outbox
unfoldable pub new_of : Format → List ℕ → Stored
new_of fmt buffer =
    table
    (line 14 (ltb (length buffer) (length (new_bytes fmt))) ∷ [])
    (λ n. stored (refused n) buffer)
    (stored_at buffer 0 (new_bytes fmt))

-- 15: no stream's number, or a payload over the limit
unfoldable pub bad_record : Format → ℕ → ℕ → Bool
bad_record fmt stream size = not (is_stream stream) || ltb fmt.limit size

-- a refusal of the used bytes leaves the buffer
abbrev pub if_whole : Answer (Unit {0}) → List ℕ → Stored → Stored
if_whole (given whole) buffer after = after
if_whole (refused n) buffer after = stored (refused n) buffer
if_whole (refused_at n place) buffer after = stored (refused_at n place) buffer

-- a record after the used bytes: 1, 40, 15, 14, then the used bytes' own refusal
unfoldable pub append_of : Format → List ℕ → ℕ → ℕ → List ℕ → Stored
append_of fmt buffer used stream payload =
    table
    (line 1 (ltb (length buffer) used) ∷ [])
    (λ n. stored (refused n) buffer)
    (table
    (line 40 (other_version fmt (take used buffer)) ∷ [])
    (λ n. stored (refused_at n 0) buffer)
    (table
    (line 15 (bad_record fmt stream (length payload))
    ∷ line 14 (ltb (length buffer - used) (length (record_bytes fmt stream payload)))
    ∷ [])
    (λ n. stored (refused n) buffer)
    (if_whole (walk_of fmt (take used buffer)) buffer (stored_at buffer used (record_bytes fmt stream payload)))))

-- ---- what the code's answers tell, in the numbers of docs/FORMATS.md

abbrev pub create_number : NoRoom → ℕ
create_number why = 14

abbrev pub append_number : AppendRefusal → ℕ
append_number AppendRefusal.BeyondBuffer = 1
append_number AppendRefusal.BadRecord = 15
append_number AppendRefusal.NoRoom = 14
append_number (AppendRefusal.Broken broken) = broken_number broken

abbrev pub told_new : Result ℕ NoRoom → Answer ℕ
told_new (Ok n) = given n
told_new (Err why) = refused (create_number why)

abbrev pub told : Result ℕ AppendRefusal → Answer ℕ
told (Ok n) = given n
told (Err AppendRefusal.BeyondBuffer) = refused 1
told (Err AppendRefusal.BadRecord) = refused 15
told (Err AppendRefusal.NoRoom) = refused 14
told (Err (AppendRefusal.Broken broken)) = refused_at (broken_number broken) broken.place
