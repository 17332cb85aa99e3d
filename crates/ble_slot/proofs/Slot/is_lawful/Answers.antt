use mathlib.Core.Path.{refl, sym, ◌∙◌}
use Rattle.ble_slot.specs.Slot.{opens}
use Rattle.ble_slot.proofs.Slots.{idle-says, open-says}
use Rattle.ble_slot.proofs.Slot.is_lawful.Goals as goal

pub returns-then-idle_law : goal.returns-then-idle_law
returns-then-idle_law c = c.if-idle_law.true ∙ sym (idle-says c.args.limit c.args.self (sym c.idle_law.ensures ∙ c.if-idle_law.true))

pub returns-else-idle_law : goal.returns-else-idle_law
returns-else-idle_law c =
    c.open_law.ensures ∙ sym (open-says c.args.limit c.args.self (opens c.args.self) refl (sym c.idle_law.ensures ∙ c.if-idle_law.false))
