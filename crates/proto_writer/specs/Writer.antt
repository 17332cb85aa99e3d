-- The bytes of a message that is written: a list of fields, in rising order.
use Rattle.std.specs.Prelude.{ℕ, ◌+◌, ◌*◌, cond, List, [], ◌∷◌, ◌++◌, length, eqb}
use Rattle.proto_writer.specs.Varint.{varint_bytes}
use Rattle.proto_field.specs.Tag.{wire_types, varint_type, length_type}

-- a field that is written, with its number
pub data Field : Type 0 where
  -- a number, left out where it is 0
  scalar : ℕ → ℕ → Field
  -- a string, left out where it is empty
  text : ℕ → List ℕ → Field
  -- numbers as one list of varints, left out where there is none
  packed : ℕ → List ℕ → Field
  -- a message within the message, written also where it is empty
  nested : ℕ → List ℕ → Field

unfoldable pub tag_bytes : ℕ → ℕ → List ℕ
tag_bytes field wire = varint_bytes (field * wire_types + wire)

-- the tag and the length of a part of len bytes
unfoldable pub head_bytes : ℕ → ℕ → List ℕ
head_bytes field len = tag_bytes field length_type ++ varint_bytes len

-- a part: its tag, its length, its bytes
unfoldable pub part_bytes : ℕ → List ℕ → List ℕ
part_bytes field l = head_bytes field (length l) ++ l

-- numbers as varints, one after another
abbrev pub varints_bytes : List ℕ → List ℕ
varints_bytes [] = []
varints_bytes (v ∷ vs) = varint_bytes v ++ varints_bytes vs

-- the bytes of a field
unfoldable pub field_bytes : Field → List ℕ
field_bytes (scalar n v) = cond (eqb v 0) [] (tag_bytes n varint_type ++ varint_bytes v)
field_bytes (text n l) = cond (eqb (length l) 0) [] (part_bytes n l)
field_bytes (packed n vs) = cond (eqb (length vs) 0) [] (part_bytes n (varints_bytes vs))
field_bytes (nested n l) = part_bytes n l

-- the bytes of a message
abbrev pub message_bytes : List Field → List ℕ
message_bytes [] = []
message_bytes (f ∷ fs) = field_bytes f ++ message_bytes fs
