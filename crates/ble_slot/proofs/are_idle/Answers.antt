use Rattle.ble_slot.proofs.are_idle.Goals as goal

pub returns : goal.returns
returns c = cc
