-- The refusals of messages: the number, and what is told beside it.
use Rattle.std.specs.Prelude.{ℕ, List, [], ◌∷◌, Result, Ok, Err}
use Rattle.wire.specs.Told.{Told, ToldMore, told_by, given, refused}
use Rattle.proto_field.specs.Refusal.{number_of}
use Rattle.proto_field.specs.declared.value.Part.{Part}
use Rattle.proto_field.specs.Value.{Within}
use Rattle.proto_reader.specs.declared.gathered.Gathered.{Gathered}
use Rattle.proto_reader.specs.Gathered.{AllText}
use Rattle.proto_reader.specs.declared.refusal.MessageRefusal.{MessageRefusal}
use Rattle.proto_reader.specs.declared.refusal.MessageRefusal.TheVariants.{Field, BadText}

-- 36 goes with the string's field and the place in it
abbrev pub why_of : MessageRefusal → ℕ × List ℕ
why_of (Field e) = (number_of e, [])
why_of (BadText field place) = (36, field ∷ place ∷ [])

abbrev pub message_number : MessageRefusal → ℕ
message_number e = (why_of e).0

-- the number alone, for messages that have no string
abbrev pub numbered : {A : Type 0} → ToldMore A → Told A
numbered (given a) = given a
numbered (refused why) = refused why.0

-- 0, or the number of the refusal
abbrev pub number_more : {A : Type 0} → ToldMore A → ℕ
number_more (given a) = 0
number_more (refused why) = why.0

-- the strings of what is told, if anything is, lie within the message and are well formed
abbrev pub Strings : List ℕ → List Part → Type 0
Strings s ps = Within s ps × AllText s ps

abbrev pub TellsStrings : {A : Type 0} → List ℕ → (A → List Part) → ToldMore A → Type 0
TellsStrings s parts (given a) = Strings s (parts a)
TellsStrings s parts (refused why) = Unit {0}

-- a verdict on a
abbrev pub judged_as : {A : Type 0} → Result (Unit {0}) MessageRefusal → A → ToldMore A
judged_as (Ok u) a = given a
judged_as (Err e) a = refused (why_of e)

-- what is read of a message, or what its refusal tells
abbrev pub told_more : {A : Type 0} → Result A MessageRefusal → ToldMore A
told_more = told_by why_of

-- the answers of read_fields
abbrev pub told_kept : Result Gathered MessageRefusal → ToldMore Gathered
told_kept = told_more
