-- Unsigned 32-bit numbers in varints.
use Rattle.std.specs.Prelude.{ℕ, ◌%◌, ◌^◌}

-- the number of a varint's value: its low 32 bits
abbrev pub unsigned_of : ℕ → ℕ
unsigned_of v = v % 2 ^ 32
