use mathlib.Core.Path.{refl}
use Rattle.ble_slot_steps.specs.Step.{step_of}
use Rattle.ble_slot_steps.proofs.put_slot.Goals as goal

pub returns : goal.returns
unfolding step_of
returns c = refl
