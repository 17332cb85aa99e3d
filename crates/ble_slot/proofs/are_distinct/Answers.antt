use Rattle.ble_slot.proofs.are_distinct.Goals as goal

pub returns : goal.returns
returns c =
    rw (
      c.both-2.ensures,
      c.both.ensures,
      c.stands_alone-third.ensures,
      c.stands_alone-second.ensures,
      c.stands_alone-first.ensures,
      c.idle-none.ensures,
    )
