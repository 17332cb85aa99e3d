-- A whole row of slots stored.
use Rattle.std.specs.Prelude.{ℕ, zero, suc, List, get_or, set}
use Rattle.ble_slot.specs.declared.Slot.{Slot}
use Rattle.ble_slot.specs.Slot.{idle, slot_count}

-- the first slots of a row become those of a list; past the row's end nothing is stored
abbrev pub stored_up_to : ℕ → List Slot → List Slot → List Slot
stored_up_to zero slots row = row
stored_up_to (suc i) slots row = set (stored_up_to i slots row) i (get_or slots i idle)

unfoldable pub saved_row : List Slot → List Slot → List Slot
saved_row row slots = stored_up_to slot_count slots row
