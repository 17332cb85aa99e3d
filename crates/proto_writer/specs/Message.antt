-- What every message writer tells and leaves.
use Rattle.std.specs.Prelude.{ℕ, ◌-◌, Bool, cond, ◌||◌, List, [], ◌∷◌, length, ltb, Option, Some, None, Result, Ok, Err}
use Rattle.std.proofs.lemmas.List.Edits.{sets}
use Rattle.wire.specs.Told.{Told, told_by, line, Written, writes}
use Rattle.proto_field.specs.Tag.{last_field}
use Rattle.proto_writer.specs.Writer.{Field, message_bytes}
use Rattle.proto_writer.specs.declared.message.WriteRefusal.{WriteRefusal}
use Rattle.proto_writer.specs.declared.message.WriteRefusal.TheVariants.{BadArgument, NoRoom}

-- the message of these fields, from the first byte on: the number of its bytes, and the output afterwards
abbrev pub writes_message : Bool → List Field → List ℕ → Written ℕ
writes_message bad fields out =
    let bytes = message_bytes fields in
    writes (line 15 bad ∷ line 14 (ltb (length out) (length bytes)) ∷ []) (length bytes) out (sets out 0 bytes)

-- a member's number out of its range
abbrev pub bad_member : ℕ → Bool
bad_member field = ltb field 2 || ltb last_field field

-- the answers of the writers
abbrev pub number_of : WriteRefusal → ℕ
number_of BadArgument = 15
number_of NoRoom = 14

abbrev pub told_wrote : Result ℕ WriteRefusal → Told ℕ
told_wrote = told_by number_of

-- the number of bytes that were written
abbrev pub wrote_size : {E : Type 0} → Result ℕ E → ℕ
wrote_size (Ok n) = n
wrote_size (Err e) = 0

-- the room that n bytes leave, if they fit
abbrev pub less_room : ℕ → Option ℕ → Option ℕ
less_room n None = None
less_room n (Some k) = cond (ltb k n) None (Some (k - n))
