-- The claims for the two versions, with every premise written out in the words of docs/FORMATS.md: one made stronger in Claims is not met here.
use Rattle.std.specs.Prelude.{ℕ, ◌+◌, ◌-◌, ◌^◌, ◌≤◌, ◌<◌, ◌≡◌, List, [], ◌∷◌, ◌++◌, length, take, drop}
use Rattle.outbox.specs.Format.{Format, version_one, version_two, format_of, record_bytes}
use Rattle.outbox.specs.Reader.{given, found, found_at, handed, read_all, walk_of}
use Rattle.outbox.specs.Writer.{new_of, append_of}
use Rattle.outbox_claims.specs.Claims.{Lawful, Entry, EntryTaken, expected, append_all, Returned, cut_at, usable, records_of, Resumed, SameBytes, moved, all_moved, read_at}

-- a version in numbers: its byte, the bytes before a payload, the largest payload
pub data Version : Format → ℕ → ℕ → ℕ → Type 0 where
  one : Version version_one 1 3 4096
  two : Version version_two 2 5 65535

-- the streams
pub data StreamByte : ℕ → Type 0 where
  control : StreamByte 0
  ota : StreamByte 2
  alexa : StreamByte 6

-- a record that an outbox holds: one of the streams, and a payload up to the largest
pub record Allowed (limit : ℕ) (e : Entry) : Type 0 where
  pub stream : StreamByte e.stream
  pub short : length e.payload ≤ limit

abbrev pub AllAllowed : ℕ → List Entry → Type 0
AllAllowed limit [] = Unit {0}
AllAllowed limit (e ∷ es) = Allowed limit e × AllAllowed limit es

-- the number of bytes of some records, with `head` bytes before each payload
abbrev pub size_of : ℕ → List Entry → ℕ
size_of head [] = 0
size_of head (e ∷ es) = head + length e.payload + size_of head es

-- a file as appends make it in a lent buffer
abbrev pub file_of : Format → ℕ → List ℕ → List Entry → List ℕ
file_of fmt head buffer es = take (1 + size_of head es) (append_all fmt (new_of fmt buffer) es).buffer

-- a buffer with room for some records that an outbox holds
pub record FileFits (head limit : ℕ) (buffer : List ℕ) (es : List Entry) : Type 0 where
  pub allowed : AllAllowed limit es
  pub room : 1 + size_of head es ≤ length buffer

pub record HoldIn (fmt : Format) (byte head limit : ℕ) : Type 0 where
  -- the calls judge a file with this first byte by this version
  pub judged-by : (rest : List ℕ) → format_of (byte ∷ rest) ≡ fmt
  pub takes : (e : Entry) → Allowed limit e → EntryTaken fmt e
  pub records-return : (buffer : List ℕ) (es : List Entry) → FileFits head limit buffer es → Returned fmt (append_all fmt (new_of fmt buffer) es) es
  pub cuts-are-found : (buffer : List ℕ) (es : List Entry) → FileFits head limit buffer es → (kept : ℕ)
      → read_all fmt (take kept (file_of fmt head buffer es)) ≡ cut_at kept (expected fmt 1 es)
  pub appends-after-cut : (buffer : List ℕ) (es : List Entry) → FileFits head limit buffer es → (kept : ℕ) → 1 ≤ kept → (room : List ℕ) (e : Entry) → Allowed limit e
      → let left = take kept (file_of fmt head buffer es) in
      let used = usable (walk_of fmt left) left in
      used + (head + length e.payload) ≤ length (left ++ room)
      → Resumed fmt (read_all fmt left) used e (append_of fmt (left ++ room) used e.stream e.payload)
  pub appends-as-alone : (buffer : List ℕ) (es : List Entry) → FileFits head limit buffer es → (room own : List ℕ) (e : Entry) → Allowed limit e
      → let file = file_of fmt head buffer es in
      length file + (head + length e.payload) ≤ length (file ++ room) → 1 + (head + length e.payload) ≤ length own
      → SameBytes fmt file e (append_of fmt (file ++ room) (length file) e.stream e.payload) (append_all fmt (new_of fmt own) (e ∷ []))
  -- the bytes of the longest record are enough for one
  pub one-reads-as-alone : (rest : List ℕ) (place : ℕ) → 1 ≤ place → place ≤ length (byte ∷ rest) → (n : ℕ) → head + limit ≤ n
      → read_at fmt (byte ∷ rest) place ≡ moved (place - 1) (read_at fmt (byte ∷ take n (drop place (byte ∷ rest))) 1)
  pub record-reads-alone : (e : Entry) (more : List ℕ) → Allowed limit e
      → read_at fmt (byte ∷ (record_bytes fmt e.stream e.payload ++ more)) 1
      ≡ handed (given (found (found_at fmt 1 e.stream (length e.payload)))) e.payload
  -- however many of the first bytes are looked at first
  pub rest-reads-as-alone : (rest : List ℕ) (n : ℕ) → 1 ≤ n
      → let part = take n (byte ∷ rest) in
      let place = usable (walk_of fmt part) part in
      read_all fmt (byte ∷ rest) ≡ records_of (read_all fmt part) ++ all_moved (place - 1) (read_all fmt (byte ∷ drop place (byte ∷ rest)))

pub record HoldInEachVersion : Type 0 where
  -- a format is lawful where its field holds every length
  pub lawful : (fmt : Format) → ((n : ℕ) → n ≤ fmt.limit → n + 1 < 256 ^ fmt.width) → Lawful fmt
  -- a whole file of any format, also where nothing is kept, or where a length in its range could not be written
  pub whole-files-cut : (fmt : Format) (file : List ℕ) → walk_of fmt file ≡ given tt → (kept : ℕ)
      → read_all fmt (take kept file) ≡ cut_at kept (read_all fmt file)
  pub hold : (fmt : Format) (byte head limit : ℕ) → Version fmt byte head limit → HoldIn fmt byte head limit
