use Rattle.ble_slot.proofs.Slot.is_idle.Goals as goal

pub returns : goal.returns
returns c = rw c.opens.ensures
