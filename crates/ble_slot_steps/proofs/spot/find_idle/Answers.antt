use Rattle.ble_slot_steps.proofs.Steps.{where-four}
use Rattle.ble_slot.specs.Slot.{is_idle}
use Rattle.ble_slot_steps.proofs.spot.find_idle.Goals as goal

pub returns : goal.returns
returns c =
    rw (
      where-four is_idle c.args.lane c.well_formed.0.1.0.1,
      ← c.is_idle-a.ensures,
      ← c.is_idle-b.ensures,
      ← c.is_idle-c.ensures,
      ← c.is_idle-d.ensures,
    )
    c.first_of.ensures
