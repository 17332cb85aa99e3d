-- A refusal's number as it is handed out, by what the call tells.
use Prim.Native.Nat.{ℕ}
use mathlib.Core.Path.{◌≡◌, refl}
use Rattle.std.specs.Prelude.{Result, Ok, Err}
use Rattle.wire.specs.Told.{told_by, number_told}
use Rattle.outbox.specs.declared.verdict.Broken.{Broken}
use Rattle.outbox.specs.declared.writer.NoRoom.{NoRoom}
use Rattle.outbox.specs.Reader.{broken_number, number_in, told_walk}
use Rattle.outbox.specs.Writer.{create_number, told_new}
use Rattle.c_rows.specs.Row.{size_told}
use Rattle.c_outbox.specs.Convert.{used_in}

pub walk-number : (walked : Result (Unit {0}) Broken) → number_told (told_by broken_number walked) ≡ number_in (told_walk walked)
walk-number (Ok whole) = refl
walk-number (Err broken) = refl

pub new-number : (created : Result ℕ NoRoom) → number_told (told_by create_number created) ≡ number_in (told_new created)
new-number (Ok n) = refl
new-number (Err why) = refl

pub new-size : (created : Result ℕ NoRoom) → size_told (told_by create_number created) ≡ used_in (told_new created)
new-size (Ok n) = refl
new-size (Err why) = refl
