-- The walk over the fields of a message, whichever it is.
use Rattle.std.specs.Prelude.{ℕ, zero, suc, ◌+◌, cond, ◌&&◌, not, List, [], ◌∷◌, length, take, leb, eqb, ◌<◌, Result, Ok, Err}
use Rattle.wire.specs.Told.{ToldOf, Told, ToldMore, alone, given, refused, and_then, line, table}
use Rattle.proto_field.specs.Refusal.{number_of}
use Rattle.proto_field.specs.declared.Refusal.{Refusal}
use Rattle.proto_field.specs.declared.varint.Placed.{Placed}
use Rattle.proto_field.specs.Varint.{varint_at, told_placed}
use Rattle.proto_field.specs.Tag.{tag_at}
use Rattle.proto_field.specs.Value.{value_at, bytes_of, Within}
use Rattle.utf8.specs.WellFormed.{bad_place}
use Rattle.proto_field.specs.declared.value.Part.{Part}
use Rattle.proto_field.specs.declared.value.Value.{Value}
use Rattle.proto_field.specs.declared.value.Value.TheVariants.{Number, Bytes, Skipped}
use Rattle.proto_schema.specs.declared.Schema.{Schema}
use Rattle.proto_schema.specs.declared.Role.{Role}
use Rattle.proto_schema.specs.declared.Role.TheVariants.{Scalar, Text, Transports, Nested, Repeated, Member, Unknown}
use Rattle.proto_reader.specs.declared.gathered.Gathered.{Gathered}
use Rattle.proto_reader.specs.declared.reader.Added.{Added}
use Rattle.proto_schema.specs.Schema.{role_of, fits_role, is_member, is_repeated}
use Rattle.proto_reader.specs.Gathered.{most_repeated, nothing, with_scalar, with_text, with_member, with_repeated, with_transport}

-- steps from a place to the end of the bytes, each one with the place after it; fuel bounds their number, and as many as there are bytes is enough
abbrev pub walk : {N : Type 0} → (List ℕ → ℕ → Gathered → ToldOf N (Gathered × ℕ)) → ℕ → List ℕ → ℕ → Gathered → ToldOf N Gathered
walk step zero s at g = given g
walk step (suc fuel) s at g =
    cond (leb (length s) at) (given g) (and_then (step s at g) (λ q. walk step fuel s q.1 q.0))

-- what was gathered, with the place after it
abbrev pub placed : {N : Type 0} → ℕ → Gathered → ToldOf N (Gathered × ℕ)
placed n g = given (g, n)

-- one entry of a packed list
unfoldable pub entry_at : List ℕ → ℕ → Gathered → Told (Gathered × ℕ)
entry_at s at g = and_then (varint_at s at) (λ p. and_then (with_transport p.0 g) (placed p.1))

-- the entries of a packed list, from a place to the end
unfoldable pub packed_from : List ℕ → ℕ → Gathered → Told Gathered
packed_from s at g = walk entry_at (length s) s at g

-- a tag by its role: 33 for a known field with another wire type, 34 for a second member and for one message too many of a repeated field
unfoldable pub judged : Role → ℕ → ℕ → ℕ → Told (Unit {0})
judged role wire member count =
    table (line 33 (not (fits_role role wire)) ∷ line 34 (is_member role wire && not (eqb member 0)) ∷ line 34 (is_repeated role && leb most_repeated count) ∷ []) refused
    (given tt)

-- what a number, a part of the message and a value add
abbrev pub number_added : Role → ℕ → Added
number_added (Scalar slot) v = Added.Scalar slot v
number_added (Text slot) v = Added.Nothing
number_added Transports v = Added.Transport v
number_added Nested v = Added.Nothing
number_added Repeated v = Added.Nothing
number_added Member v = Added.Nothing
number_added Unknown v = Added.Nothing

abbrev pub part_added : Role → ℕ → Part → Added
part_added (Scalar slot) field p = Added.Nothing
part_added (Text slot) field p = Added.Text field slot p
part_added Transports field p = Added.Packed p
part_added Nested field p = Added.Member field p
part_added Repeated field p = Added.Repeated
part_added Member field p = Added.Member field p
part_added Unknown field p = Added.Nothing

abbrev pub value_added : Role → ℕ → Value → Added
value_added role field (Number v) = number_added role v
value_added role field (Bytes p) = part_added role field p
value_added role field (Skipped p) = Added.Nothing

-- what a field whose tag was judged adds, and the place after it
unfoldable pub added_at : List ℕ → ℕ → ℕ → Role → ℕ → Told (Added × ℕ)
added_at s at wire role field = and_then (value_at s at wire) (λ v. given (value_added role field v.0, v.1))

-- what a field adds, and the place after it: its tag, its tag by its role, then its value
unfoldable pub read_at : Schema → List ℕ → ℕ → ℕ → ℕ → Told (Added × ℕ)
read_at schema s at member count =
    and_then (tag_at s at) (λ h.
    and_then (judged (role_of schema h.field) h.wire member count) (λ _.
    added_at s h.next h.wire (role_of schema h.field) h.field))

-- a string: 36, with its field and the place of its first bad sequence, unless there is none
unfoldable pub with_string : List ℕ → ℕ → ℕ → Part → Gathered → ToldMore Gathered
with_string s field slot p g =
    let place = bad_place (bytes_of s p) in
    cond (eqb place (length (bytes_of s p))) (given (with_text slot p g)) (refused (36, field ∷ place ∷ []))

-- what was gathered with what a field adds: a packed list is read within its part
abbrev pub with_added : List ℕ → Added → Gathered → ToldMore Gathered
with_added s Added.Nothing g = given g
with_added s (Added.Scalar slot v) g = given (with_scalar slot v g)
with_added s (Added.Text field slot p) g = with_string s field slot p g
with_added s (Added.Member field p) g = given (with_member field p g)
with_added s Added.Repeated g = given (with_repeated g)
with_added s (Added.Transport v) g = alone (with_transport v g)
with_added s (Added.Packed p) g = alone (packed_from (take (p.start + p.len) s) p.start g)

-- one field: what it adds, and what was gathered with that
unfoldable pub field_at : Schema → List ℕ → ℕ → Gathered → ToldMore (Gathered × ℕ)
field_at schema s at g = and_then (alone (read_at schema s at g.field g.count)) (λ a. and_then (with_added s a.0 g) (placed a.1))

-- the fields of a message, from a place to the end
unfoldable pub fields_from : Schema → List ℕ → ℕ → ToldMore Gathered
fields_from schema s at = walk (field_at schema) (length s) s at nothing

-- the answers of read_entry, beside what is gathered
abbrev pub told_entry : Result ℕ Refusal → Gathered → Told (Gathered × ℕ)
told_entry (Ok n) g = given (g, n)
told_entry (Err e) g = refused (number_of e)

-- the answers of take_value and read_field
abbrev pub told_field : Result (Placed Added) Refusal → Told (Added × ℕ)
told_field = told_placed

-- what a field adds lies within the message, and there is room for one message more of a repeated field
abbrev pub added_parts : Added → List Part
added_parts Added.Nothing = []
added_parts (Added.Scalar slot v) = []
added_parts (Added.Text field slot p) = p ∷ []
added_parts (Added.Member field p) = p ∷ []
added_parts Added.Repeated = []
added_parts (Added.Transport v) = []
added_parts (Added.Packed p) = p ∷ []

abbrev pub Counts : ℕ → Added → Type 0
Counts count Added.Nothing = Unit {0}
Counts count (Added.Scalar slot v) = Unit {0}
Counts count (Added.Text field slot p) = Unit {0}
Counts count (Added.Member field p) = Unit {0}
Counts count Added.Repeated = count < most_repeated
Counts count (Added.Transport v) = Unit {0}
Counts count (Added.Packed p) = Unit {0}

abbrev pub AddsWithin : List ℕ → ℕ → Added → Type 0
AddsWithin s count a = Within s (added_parts a) × Counts count a
