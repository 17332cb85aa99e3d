use Rattle.ble_slot_steps.specs.Step.{drop_by}
use Rattle.ble_slot_steps.proofs.drop_by.Goals as goal

pub returns : goal.returns
unfolding drop_by
returns c = rw (← c.idle.ensures) c.put_slot.ensures
