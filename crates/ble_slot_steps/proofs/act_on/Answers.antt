use Rattle.ble_slot_steps.proofs.act_on.Goals as goal

pub begin-requires : goal.begin-requires
begin-requires c =
    let p = rw c.in-First.is at c.requires.1 in
    (c.requires.0, p.0, p.1)

pub follow-requires : goal.follow-requires
follow-requires c = (c.requires.0, rw c.in-Next.is at c.requires.1)

pub returns-in-First : goal.returns-in-First
returns-in-First c = rw c.in-First.is c.begin.ensures

pub returns-in-Next : goal.returns-in-Next
returns-in-Next c = rw c.in-Next.is c.follow.ensures

pub returns-in-Ack : goal.returns-in-Ack
returns-in-Ack c = rw c.in-Ack.is c.stay.ensures

pub returns-in-Nack : goal.returns-in-Nack
returns-in-Nack c = rw c.in-Nack.is c.stay-in-Nack.ensures
