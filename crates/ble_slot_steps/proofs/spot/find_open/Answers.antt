use Rattle.ble_slot_steps.proofs.Steps.{where-four}
use Rattle.ble_slot.specs.Slot.{is_open}
use Rattle.ble_slot_steps.proofs.spot.find_open.Goals as goal

pub returns-then-is_open : goal.returns-then-is_open
returns-then-is_open c =
    rw (
      where-four (is_open c.args.id) c.args.lane c.well_formed.0.1.0.1,
      ← c.is_open.ensures,
      c.if-is_open.true,
    )

pub returns-then-is_open-2 : goal.returns-then-is_open-2
returns-then-is_open-2 c =
    rw (
      where-four (is_open c.args.id) c.args.lane c.well_formed.0.1.0.1,
      ← c.is_open.ensures,
      c.if-is_open.false,
      ← c.is_open-2.ensures,
      c.if-is_open-2.true,
    )

pub returns-then-is_open-3 : goal.returns-then-is_open-3
returns-then-is_open-3 c =
    rw (
      where-four (is_open c.args.id) c.args.lane c.well_formed.0.1.0.1,
      ← c.is_open.ensures,
      c.if-is_open.false,
      ← c.is_open-2.ensures,
      c.if-is_open-2.false,
      ← c.is_open-3.ensures,
      c.if-is_open-3.true,
    )

pub returns-then-is_open-4 : goal.returns-then-is_open-4
returns-then-is_open-4 c =
    rw (
      where-four (is_open c.args.id) c.args.lane c.well_formed.0.1.0.1,
      ← c.is_open.ensures,
      c.if-is_open.false,
      ← c.is_open-2.ensures,
      c.if-is_open-2.false,
      ← c.is_open-3.ensures,
      c.if-is_open-3.false,
      ← c.is_open-4.ensures,
      c.if-is_open-4.true,
    )

pub returns : goal.returns
returns c =
    rw (
      where-four (is_open c.args.id) c.args.lane c.well_formed.0.1.0.1,
      ← c.is_open.ensures,
      c.if-is_open.false,
      ← c.is_open-2.ensures,
      c.if-is_open-2.false,
      ← c.is_open-3.ensures,
      c.if-is_open-3.false,
      ← c.is_open-4.ensures,
      c.if-is_open-4.false,
    )
