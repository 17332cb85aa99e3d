use Rattle.ble_slot.proofs.Slots.{all-zero}
use Rattle.ble_slot.proofs.Slot.idle_law.Goals as goal

pub returns : goal.returns
returns c =
    let s = c.args.self in
    rw (c.head.ensures.0, c.wide.ensures.0, c.wide-2.ensures.0)
    (all-zero s.opened s.id s.sequence s.wanted s.total s.held)
