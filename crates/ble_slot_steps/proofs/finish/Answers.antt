use Rattle.ble_slot_steps.specs.Step.{step_of, finish}
use Rattle.ble_slot_steps.proofs.finish.Goals as goal

pub returns : goal.returns
unfolding step_of finish
returns c = simp c.idle-slot.ensures
