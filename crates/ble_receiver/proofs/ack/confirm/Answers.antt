use Rattle.ble_receiver.proofs.ack.confirm.Goals as goal

pub put-requires : goal.put-requires
put-requires c =
    (c.requires.2, c.number-number.ensures.1, c.requires.0, c.requires.1)

pub returns-then-wanted : goal.returns-then-wanted
returns-then-wanted c =
    rw (c.if-wanted.true, c.put.ensures, c.number-number.ensures.0)
