-- A field's value, as its wire type says.
use Rattle.std.specs.Prelude.{ℕ, ◌+◌, ◌≤◌, cond, List, [], ◌∷◌, length, take, drop, ltb, eqb, Result}
use Rattle.wire.specs.Told.{Told, ToldOf, given, refused, and_then, line, table}
use Rattle.proto_field.specs.declared.value.Part.{Part}
use Rattle.proto_field.specs.declared.value.Value.{Value}
use Rattle.proto_field.specs.declared.value.Value.TheVariants.{Number, Bytes, Skipped}
use Rattle.proto_field.specs.declared.Refusal.{Refusal}
use Rattle.proto_field.specs.declared.varint.Placed.{Placed}
use Rattle.proto_field.specs.Varint.{varint_at, told_placed}
use Rattle.proto_field.specs.Tag.{varint_type, fixed64_type, length_type, fixed32_type}

-- n bytes that are passed over
abbrev pub skipped_at : List ℕ → ℕ → ℕ → Told (Value × ℕ)
skipped_at s at n = table (line 30 (ltb (length s) (at + n)) ∷ []) refused (given (Skipped (record { start = at; len = n }), at + n))

-- the part of a length and the place after the length
abbrev pub part_of : List ℕ → ℕ × ℕ → Told (Value × ℕ)
part_of s p =
    table (line 30 (ltb (length s) (p.1 + p.0)) ∷ []) refused (given (Bytes (record { start = p.1; len = p.0 }), p.1 + p.0))

-- the value of a wire type at a place of a message, and the place after it
unfoldable pub value_at : List ℕ → ℕ → ℕ → Told (Value × ℕ)
value_at s at wire =
    cond (eqb wire varint_type) (and_then (varint_at s at) (λ p. given (Number p.0, p.1)))
    (cond (eqb wire length_type) (and_then (varint_at s at) (part_of s))
    (cond (eqb wire fixed64_type) (skipped_at s at 8)
    (cond (eqb wire fixed32_type) (skipped_at s at 4) (refused 32))))

-- the answers of read_value
abbrev pub told_value : Result (Placed Value) Refusal → Told (Value × ℕ)
told_value = told_placed

-- the bytes of a part of a message
abbrev pub bytes_of : List ℕ → Part → List ℕ
bytes_of s p = take p.len (drop p.start s)

-- parts that lie within a message, each to its end
abbrev pub Within : List ℕ → List Part → Type 0
Within s [] = Unit {0}
Within s (p ∷ ps) = (p.start + p.len ≤ length s) × Within s ps

-- the parts of what is told, if anything is, lie within the message
abbrev pub TellsWithin : {N A : Type 0} → List ℕ → (A → List Part) → ToldOf N A → Type 0
TellsWithin s parts (given a) = Within s (parts a)
TellsWithin s parts (refused n) = Unit {0}

-- the part of a value whose length is told
abbrev pub value_parts : Value → List Part
value_parts (Number v) = []
value_parts (Bytes p) = p ∷ []
value_parts (Skipped p) = []

-- .. of a value with the place after it
abbrev pub read_parts : Value × ℕ → List Part
read_parts q = value_parts q.0
