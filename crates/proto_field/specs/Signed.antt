-- Signed 32-bit numbers in varints.
use Rattle.std.specs.Prelude.{ℕ, ◌%◌, ◌^◌, ℤ}
use Rattle.std.specs.Int.{w32, w64}
use Rattle.std.proofs.Common.{to_z, of_z}

-- the number of a varint's value: its low 32 bits, in two's complement
abbrev pub signed_of : ℕ → ℤ
signed_of v = to_z w32 (v % 2 ^ 32)

-- the varint's value of a number: its 64 bits in two's complement, so that a negative one has ten bytes
abbrev pub extended : ℤ → ℕ
extended z = of_z w64 z
