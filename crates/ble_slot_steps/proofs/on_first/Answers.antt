use borrow.Author.Tests.{eq-eqb, ne_eqb}
use Rattle.ble_slot_steps.specs.Step.{first_step}
use Rattle.ble_slot_steps.proofs.on_first.Goals as goal

pub returns-then-len-total : goal.returns-then-len-total
unfolding first_step
returns-then-len-total c = rw (eq-eqb _ _ c.if-len-total.true, ← c.opens-replaced.ensures) c.finish.ensures

pub returns : goal.returns
unfolding first_step
returns c = rw (ne_eqb _ _ c.if-len-total.false, ← c.opens-replaced.ensures) c.hold.ensures
