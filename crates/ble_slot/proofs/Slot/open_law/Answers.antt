use mathlib.Core.Bool.{◌&&◌}
use lib.Dec.{ltb, leb, eqb}
use native.Mathlib.Omega.{arith}
use Rattle.ble_slot.proofs.Slots.{open-bits, regrouped}
use Rattle.ble_slot.proofs.Slot.open_law.Goals as goal

pub returns : goal.returns
returns c =
    let me = c.args.self in
    rw (
      c.both-2.ensures,
      c.both.ensures,
      c.both-begun.ensures,
      c.head-fixed.ensures.0,
      c.wide-held.ensures.0,
      c.wide-total.ensures.0,
      open-bits me.opened me.id me.sequence me.wanted (omega (arith, c.well_formed)) (omega (arith, c.well_formed)) (omega (arith, c.well_formed)) (omega (arith, c.well_formed)),
    )
    (regrouped (eqb me.opened 1) (ltb me.id 16) (ltb me.sequence 16) (ltb me.wanted 2) (leb me.total c.args.limit && (leb 1 me.held && ltb me.held me.total)))
