-- A refusal's number as it is handed out, by what the call tells.
use Prim.Native.Nat.{ℕ}
use mathlib.Core.Path.{◌≡◌, refl}
use Rattle.std.specs.Prelude.{Result, Ok, Err}
use Rattle.wire.specs.Told.{told_by, number_told}
use Rattle.outbox.specs.Reader.{number_in}
use Rattle.outbox_move.specs.declared.MoveRefusal.{MoveRefusal}
use Rattle.outbox_move.specs.Moves.{move_number, told}

pub move-number : (moved : Result ℕ MoveRefusal) → number_told (told_by move_number moved) ≡ number_in (told moved)
move-number (Ok n) = refl
move-number (Err MoveRefusal.NoRoom) = refl
move-number (Err (MoveRefusal.TooLong too_long)) = refl
move-number (Err (MoveRefusal.Broken broken)) = refl
