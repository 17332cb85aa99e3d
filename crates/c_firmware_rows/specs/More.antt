-- Numbers that no parameter of 32 bits holds.
use Rattle.std.specs.Prelude.{ℕ, ◌^◌, Bool, not, ltb}

-- a number above 32 bits
unfoldable pub is_wide : ℕ → Bool
is_wide n = not (ltb n (2 ^ 32))
