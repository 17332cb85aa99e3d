-- A field's tag: its number and its wire type.
use Rattle.std.specs.Prelude.{ℕ, ◌/◌, ◌%◌, Bool, ◌||◌, not, List, [], ◌∷◌, ltb, leb, eqb, Result}
use Rattle.wire.specs.Told.{Told, told_by, given, refused, and_then, line, table}
use Rattle.proto_field.specs.declared.tag.FieldHead.{FieldHead}
use Rattle.proto_field.specs.declared.Refusal.{Refusal}
use Rattle.proto_field.specs.Refusal.{number_of}
use Rattle.proto_field.specs.Varint.{varint_at}

-- the largest field number
abbrev pub last_field : ℕ
last_field = 536870911

-- the wire types: a varint, eight bytes, a length and as many bytes, four bytes
abbrev pub varint_type : ℕ
varint_type = 0

abbrev pub fixed64_type : ℕ
fixed64_type = 1

abbrev pub length_type : ℕ
length_type = 2

abbrev pub fixed32_type : ℕ
fixed32_type = 5

-- the wire types that a tag can say: its number's remainder by this
abbrev pub wire_types : ℕ
wire_types = 8

-- field 0 or above the largest; wire type 3, 4, 6, 7
unfoldable pub bad_tag : ℕ → ℕ → Bool
bad_tag field wire = eqb field 0 || ltb last_field field || not (leb wire length_type || eqb wire fixed32_type)

-- the tag of a varint's value, with the place after it
abbrev pub head_of : ℕ × ℕ → Told FieldHead
head_of p =
    table (line 32 (bad_tag (p.0 / wire_types) (p.0 % wire_types)) ∷ []) refused
    (given (record { field = p.0 / wire_types; wire = p.0 % wire_types; next = p.1 }))

-- the tag at a place of a message
unfoldable pub tag_at : List ℕ → ℕ → Told FieldHead
tag_at s at = and_then (varint_at s at) head_of

-- the answers of read_tag
abbrev pub told_tag : Result FieldHead Refusal → Told FieldHead
told_tag = told_by number_of
