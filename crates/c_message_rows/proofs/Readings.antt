-- What a reading tells as a number and as a row, whatever message it reads.
use Prim.Native.Nat.{ℕ}
use mathlib.Core.Path.{◌≡◌, refl}
use mathlib.Core.List.{List}
use lib.ListN.{length}
use Rattle.std.specs.Prelude.{Result, Ok, Err}
use Rattle.wire.specs.Told.{ToldMore, told_by, number_told, given, refused}
use Rattle.proto_reader.specs.Refusal.{number_more}
use Rattle.c_message_rows.specs.Convert.{fault_row}

-- the number alone is that of what is told
pub number-alone : {A E : Type 0} (tells : E → ℕ × List ℕ) (r : Result A E) → number_told (told_by (λ e. (tells e).0) r) ≡ number_more (told_by tells r)
number-alone tells (Ok a) = refl
number-alone tells (Err e) = refl

pub fault-length : {A : Type 0} (t : ToldMore A) → length (fault_row t) ≡ 2
fault-length (given a) = refl
fault-length (refused why) = refl
