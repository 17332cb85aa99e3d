-- The lent buffer: a part for each slot, one after the other, in the order of the slots.
use Rattle.std.specs.Prelude.{ℕ, ◌+◌, ◌*◌, List, take, drop}
use Rattle.std.proofs.lemmas.List.Edits.{sets}
use Rattle.ble_slot_steps.specs.declared.PayloadPlace.{PayloadPlace}

-- where the part of a slot begins
abbrev pub part_start : ℕ → ℕ → ℕ
part_start limit index = index * limit

-- the part of a slot
abbrev pub part_of : ℕ → ℕ → List ℕ → List ℕ
part_of limit index bytes = take limit (drop (part_start limit index) bytes)

-- the bytes of a payload in its packet
abbrev pub payload_bytes : List ℕ → PayloadPlace → List ℕ
payload_bytes packet payload = take payload.len (drop payload.start packet)

-- the payload is written in the part of a slot, and no other byte changes
abbrev pub stored : ℕ → ℕ → List ℕ → List ℕ → PayloadPlace → List ℕ
stored limit index bytes packet payload = sets bytes (part_start limit index + payload.at) (payload_bytes packet payload)
