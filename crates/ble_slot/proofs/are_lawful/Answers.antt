use Rattle.ble_slot.proofs.Lanes.{lawful-lanes}
use Rattle.ble_slot.proofs.are_lawful.Goals as goal

pub returns-else-lane_lawful : goal.returns-else-lane_lawful
returns-else-lane_lawful c =
    rw (
      lawful-lanes c.args.limit c.args.slots c.well_formed.1.0.1.0.1,
      ← c.lane_of.ensures,
      ← c.lane_lawful.ensures,
      c.if-lane_lawful.false,
    )

pub returns-else-lane_lawful-2 : goal.returns-else-lane_lawful-2
returns-else-lane_lawful-2 c =
    rw (
      lawful-lanes c.args.limit c.args.slots c.well_formed.1.0.1.0.1,
      ← c.lane_of.ensures,
      ← c.lane_lawful.ensures,
      c.if-lane_lawful.true,
      ← c.lane_of-then-lane_lawful.ensures,
      ← c.lane_lawful-then-lane_lawful.ensures,
      c.if-lane_lawful-2.false,
    )

pub returns-then-lane_lawful-2 : goal.returns-then-lane_lawful-2
returns-then-lane_lawful-2 c =
    rw (
      lawful-lanes c.args.limit c.args.slots c.well_formed.1.0.1.0.1,
      ← c.lane_of.ensures,
      ← c.lane_lawful.ensures,
      c.if-lane_lawful.true,
      ← c.lane_of-then-lane_lawful.ensures,
      ← c.lane_lawful-then-lane_lawful.ensures,
      c.if-lane_lawful-2.true,
      ← c.lane_of-then-lane_lawful-2.ensures,
    )
    c.lane_lawful-then-lane_lawful-2.ensures
