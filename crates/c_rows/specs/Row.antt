-- Rows of numbers: what the library tells, as a number and a row.
use Rattle.std.specs.Prelude.{ℕ, cond, List, ltb, eqb}
use Rattle.wire.specs.Told.{Told, given, refused}
pub use Rattle.wire.specs.Told.{number_told}
use Rattle.c_rows.specs.declared.row.Count.{Count}

-- a row after a call that returns a number: it stays as it was where that is 1
abbrev pub afterwards : ℕ → List ℕ → List ℕ → List ℕ
afterwards number before row = cond (eqb number 1) before row

-- how many bytes a writer wrote
abbrev pub size_told : Told ℕ → ℕ
size_told (given n) = n
size_told (refused n) = 0

abbrev pub count_of : Told ℕ → Count
count_of t = record { number = number_told t; size = size_told t }

-- a number of 64 bits where the library takes a byte: one above 255 stands for a byte that is out of range there
unfoldable pub byte_or : ℕ → ℕ → ℕ
byte_or other n = cond (ltb n 256) n other

-- a byte that is no stream, id or sequence of a packet
abbrev pub out_of_range : ℕ
out_of_range = 255
