use native.Mathlib.Omega.{arith}
use Rattle.ble_slot.proofs.Slots.{both-same}
use Rattle.ble_slot.proofs.Slot.is_open.Goals as goal

pub returns : goal.returns
returns c =
    rw (c.pair.ensures.0, c.pair-2.ensures.0) (both-same c.args.self.opened c.args.self.id c.args.id (omega (arith, c.well_formed)))
