-- What the code decides by value: the one slot of the row that is stored, and the row by its first twelve slots.
use Rattle.std.specs.Prelude.{ℕ, zero, suc, List, [], ◌∷◌, get_or, set}
use Rattle.ble_slot.specs.declared.Slot.{Slot}
use Rattle.ble_slot.specs.Answer.{told}
use Rattle.ble_slot.specs.Slot.{idle, slot_count}
use Rattle.ble_slot_steps.specs.declared.Step.{Step}
use Rattle.ble_receiver.specs.Receiver.{PacketLeft, left}

-- what a step leaves of a row
abbrev pub left_by : List Slot → Step → List ℕ → List ℕ → PacketLeft
left_by row s bytes out = left (told s.answer) (set row s.index s.slot) bytes out

-- slots of a row from an index on, idle where it has none
abbrev pub slots_from : ℕ → ℕ → List Slot → List Slot
slots_from zero at row = []
slots_from (suc n) at row = get_or row at idle ∷ slots_from n (suc at) row

unfoldable pub first_twelve : List Slot → List Slot
first_twelve row = slots_from slot_count 0 row
