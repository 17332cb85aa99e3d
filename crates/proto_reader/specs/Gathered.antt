-- What is gathered of a message, field by field.
use Rattle.std.specs.Prelude.{ℕ, ◌+◌, List, [], ◌∷◌, set, replicate, pos, leb, Result, Ok, Err}
use Rattle.wire.specs.Told.{Told, given, refused, line, table}
use Rattle.proto_field.specs.declared.Refusal.{Refusal}
use Rattle.proto_field.specs.Refusal.{number_of}
use Rattle.proto_field.specs.Signed.{signed_of}
use Rattle.proto_field.specs.Value.{bytes_of}
use Rattle.utf8.specs.WellFormed.{WellFormed}
use Rattle.proto_field.specs.declared.value.Part.{Part}
use Rattle.proto_reader.specs.declared.gathered.Gathered.{Gathered}

-- the most transports
abbrev pub most_transports : ℕ
most_transports = 8

-- the most messages of a repeated field
abbrev pub most_repeated : ℕ
most_repeated = 8

-- an absent part
abbrev pub no_part : Part
no_part = record { start = 0; len = 0 }

-- nothing gathered yet: absent scalars are 0, absent strings empty, and field 0 is no member
abbrev pub nothing : Gathered
nothing =
    record { scalars = replicate 2 0; texts = replicate 3 no_part; field = 0; part = no_part; transports = replicate most_transports (pos 0); count = 0 }

-- all parts that were gathered
abbrev pub parts_gathered : Gathered → List Part
parts_gathered g = g.part ∷ g.texts

-- strings that are well formed
abbrev pub AllText : List ℕ → List Part → Type 0
AllText s [] = Unit {0}
AllText s (p ∷ ps) = WellFormed (bytes_of s p) × AllText s ps

-- a scalar, a string: the last one counts
abbrev pub with_scalar : ℕ → ℕ → Gathered → Gathered
with_scalar slot v g =
    record { scalars = set g.scalars slot v; texts = g.texts; field = g.field; part = g.part; transports = g.transports; count = g.count }

abbrev pub with_text : ℕ → Part → Gathered → Gathered
with_text slot p g =
    record { scalars = g.scalars; texts = set g.texts slot p; field = g.field; part = g.part; transports = g.transports; count = g.count }

-- the member
abbrev pub with_member : ℕ → Part → Gathered → Gathered
with_member field p g =
    record { scalars = g.scalars; texts = g.texts; field = field; part = p; transports = g.transports; count = g.count }

-- one message more of a repeated field
abbrev pub with_repeated : Gathered → Gathered
with_repeated g =
    record { scalars = g.scalars; texts = g.texts; field = g.field; part = g.part; transports = g.transports; count = g.count + 1 }

-- one transport more: the ninth is 34
unfoldable pub with_transport : ℕ → Gathered → Told Gathered
with_transport v g =
    table (line 34 (leb most_transports g.count) ∷ []) refused
    (given (record { scalars = g.scalars; texts = g.texts; field = g.field; part = g.part; transports = set g.transports g.count (signed_of v); count = g.count + 1 }))

-- a verdict on a, by the numbers
abbrev pub field_judged : {A : Type 0} → Result (Unit {0}) Refusal → A → Told A
field_judged (Ok u) a = given a
field_judged (Err e) a = refused (number_of e)

abbrev pub told_field_verdict : Result (Unit {0}) Refusal → Told (Unit {0})
told_field_verdict v = field_judged v tt
