-- The refusals of messages by their numbers.
use Rattle.std.specs.Prelude.{ℕ}
use Rattle.proto_field.specs.declared.Refusal.{Refusal}
use Rattle.proto_field.specs.declared.Refusal.TheVariants.{Cut, TooLong, BadTag, WrongType, TooMany}

abbrev pub number_of : Refusal → ℕ
number_of Cut = 30
number_of TooLong = 31
number_of BadTag = 32
number_of WrongType = 33
number_of TooMany = 34
