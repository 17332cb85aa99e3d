-- The outbox file of docs/FORMATS.md: a version byte, then records. A record is its length, a stream byte and a payload.
use Rattle.std.specs.Prelude.{ℕ, zero, suc, ◌+◌, ◌*◌, ◌/◌, ◌%◌, ◌^◌, Bool, cond, List, [], ◌∷◌, ◌++◌, eqb, length, get_or}
use Rattle.outbox.specs.declared.format.FileVersion.{FileVersion}

-- a version: its byte, how many bytes a record's length has, the largest payload
pub record Format : Type 0 where
  pub version : ℕ
  pub width : ℕ
  pub limit : ℕ

-- version 01: lengths of two bytes, payloads of up to 4,096
abbrev pub version_one : Format
version_one = record { version = 1; width = 2; limit = 4096 }

-- version 02: lengths of four bytes, payloads of up to 65,535
abbrev pub version_two : Format
version_two = record { version = 2; width = 4; limit = 65535 }

abbrev pub format_for : FileVersion → Format
format_for FileVersion.One = version_one
format_for FileVersion.Two = version_two

-- the versions that there are
pub data Known : Format → Type 0 where
  one : Known version_one
  two : Known version_two

-- the version that a file is judged by: 01 where that is its first byte, and 02 where it is any other or none, which 02 refuses (40)
unfoldable pub is_one : List ℕ → Bool
is_one file = eqb (get_or file 0 0) 1

unfoldable pub format_of : List ℕ → Format
format_of file = cond (is_one file) version_one version_two

-- the number of the first `width` bytes, big-endian; a byte that is not there counts as 0
unfoldable pub number_of : ℕ → List ℕ → ℕ
number_of zero bytes = 0
number_of (suc w) [] = 0
number_of (suc w) (b ∷ bytes) = b * 256 ^ w + number_of w bytes

-- a number as `width` bytes, big-endian
unfoldable pub bytes_of : ℕ → ℕ → List ℕ
bytes_of zero n = []
bytes_of (suc w) n = (n / 256 ^ w) ∷ bytes_of w (n % 256 ^ w)

-- the bytes before a record's payload: its length and its stream byte
abbrev pub head_size : Format → ℕ
head_size fmt = fmt.width + 1

-- a record: the length counts the stream byte and the payload
unfoldable pub record_bytes : Format → ℕ → List ℕ → List ℕ
record_bytes fmt stream payload = bytes_of fmt.width (length payload + 1) ++ (stream ∷ payload)

-- a new outbox: the version byte
abbrev pub new_bytes : Format → List ℕ
new_bytes fmt = fmt.version ∷ []

-- the place of the first record: after the version byte
abbrev pub first_place : ℕ
first_place = 1
