use Rattle.ble_receiver.proofs.ack.confirm_accepted.Goals as goal

pub confirm-requires : goal.confirm-requires
confirm-requires c =
    (rw c.in-Finished.is at c.requires.0, c.requires.1, c.requires.2)

pub returns-in-Finished : goal.returns-in-Finished
returns-in-Finished c = rw c.in-Finished.is c.confirm.ensures
