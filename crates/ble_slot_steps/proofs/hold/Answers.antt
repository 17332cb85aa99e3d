use Rattle.ble_slot_steps.specs.Step.{step_of, hold}
use Rattle.ble_slot_steps.proofs.hold.Goals as goal

pub returns : goal.returns
unfolding step_of hold
returns c = simp (c.narrow-held.ensures, c.narrow-whole.ensures, c.bit-flag.ensures.0)
