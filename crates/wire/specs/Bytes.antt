-- Bytes and numbers.
use Rattle.std.specs.Prelude.{ℕ, ◌+◌, ◌*◌, ◌/◌, ◌%◌, ◌<◌, Bool, cond, List, [], ◌∷◌}

-- a flag as a number
abbrev pub bit : Bool → ℕ
bit b = cond b 1 0

-- the number of two bytes, big-endian
abbrev pub pair_of : ℕ → ℕ → ℕ
pair_of high low = high * 256 + low

-- a number as two bytes, big-endian
abbrev pub pair_bytes : ℕ → List ℕ
pair_bytes n = n / 256 ∷ n % 256 ∷ []

-- every number of a list is a byte
abbrev pub AllBytes : List ℕ → Type 0
AllBytes [] = Unit {0}
AllBytes (x ∷ xs) = (x < 256) × AllBytes xs
