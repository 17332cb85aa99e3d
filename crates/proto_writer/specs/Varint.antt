-- The bytes of the shortest varint of a number.
use Rattle.std.specs.Prelude.{ℕ, zero, suc, ◌+◌, ◌/◌, ◌%◌, cond, List, [], ◌∷◌, ltb}
use Rattle.proto_field.specs.Varint.{base, more_bytes}

-- the digits of v in the fewest bytes, of which at most k follow the first
abbrev pub digits_of : ℕ → ℕ → List ℕ
digits_of zero v = v ∷ []
digits_of (suc k) v = cond (ltb v base) (v ∷ []) ((v % base + base) ∷ digits_of k (v / base))

-- the shortest varint of v
unfoldable pub varint_bytes : ℕ → List ℕ
varint_bytes v = digits_of more_bytes v
