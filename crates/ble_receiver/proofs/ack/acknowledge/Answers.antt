use Rattle.ble_receiver.proofs.ack.acknowledge.Goals as goal

pub confirm_accepted-requires : goal.confirm_accepted-requires
confirm_accepted-requires c =
    (rw c.in-Ok.is at c.requires.0, c.requires.1, c.requires.2)

pub returns-in-Ok : goal.returns-in-Ok
returns-in-Ok c = rw c.in-Ok.is c.confirm_accepted.ensures
