-- The claim about moving: records, streams and order stay, and the way back gives the same bytes.
use Rattle.std.specs.Prelude.{ℕ, ◌+◌, ◌-◌, ◌≤◌, ◌≡◌, List, [], ◌∷◌, ◌++◌, length, take}
use Rattle.wire.specs.Bytes.{AllBytes}
use Rattle.outbox.specs.Format.{Format, version_one, format_of, first_place}
use Rattle.outbox.specs.Reader.{Answer, given, refused, refused_at, Item, found, end, HandedRecord, read_all, walk_of}
use Rattle.outbox.specs.Writer.{Stored, stored_at}
use Rattle.outbox_claims.specs.Claims.{Entry}
use Rattle.outbox_claims.specs.Versions.{Version, size_of}
use Rattle.outbox_move.specs.Moves.{over_from, move_of}

-- a record that was read, as its sender had it
abbrev pub entry_of : List ℕ → Answer Item → List Entry
entry_of payload (given (found f)) = record { stream = f.stream; payload = payload } ∷ []
entry_of payload (given end) = []
entry_of payload (refused n) = []
entry_of payload (refused_at n place) = []

abbrev pub entries_of : List HandedRecord → List Entry
entries_of [] = []
entries_of (h ∷ hs) = entry_of h.payload h.answer ++ entries_of hs

-- the records of a file, by its own version
abbrev pub records_of : List ℕ → List Entry
records_of file = entries_of (read_all (format_of file) file)

abbrev pub AllShort : ℕ → List Entry → Type 0
AllShort limit [] = Unit {0}
AllShort limit (e ∷ es) = (length e.payload ≤ limit) × AllShort limit es

-- a whole file that can make the journey: no payload is over the limit
pub record Movable (limit : ℕ) (file : List ℕ) : Type 0 where
  pub bytes : AllBytes file
  pub whole : walk_of (format_of file) file ≡ given tt
  pub short : AllShort limit (records_of file)

-- this many bytes are written; they are a whole file of the wished version with the same records, and the way back gives the file
pub record Moves (wished : Format) (file : List ℕ) (size : ℕ) (s : Stored) : Type 0 where
  pub written : s.told ≡ given size
  pub version : format_of (take size s.buffer) ≡ wished
  pub whole : walk_of wished (take size s.buffer) ≡ given tt
  pub same : records_of (take size s.buffer) ≡ records_of file
  pub back : (room : List ℕ) → length file ≤ length room → move_of (format_of file) (take size s.buffer) room ≡ stored_at room 0 file

unfoldable pub FilesMove : Type 0
FilesMove =
    (wished : Format) (byte head limit : ℕ) → Version wished byte head limit → (file out : List ℕ) → Movable limit file
    → 1 + size_of head (records_of file) ≤ length out
    → Moves wished file (1 + size_of head (records_of file)) (move_of wished file out)

-- ---- the premise from the other side, from the facts of docs/FORMATS.md
pub record MovableWhen : Type 0 where
  -- every whole file goes to 02, and every one of 01 stays as it is
  pub to-two : (file : List ℕ) → AllBytes file → walk_of (format_of file) file ≡ given tt → Movable 65535 file
  pub one-stays : (file : List ℕ) → AllBytes file → walk_of (format_of file) file ≡ given tt → format_of file ≡ version_one → Movable 4096 file
  -- one of 02 goes to 01 if no record is refused by 46
  pub to_one : (file : List ℕ) → AllBytes file → walk_of (format_of file) file ≡ given tt → over_from 4096 first_place (read_all (format_of file) file) ≡ given tt → Movable 4096 file
