use Rattle.capture_judge.proofs.step.step.Goals as goal

pub returns-in-First : goal.returns-in-First
returns-in-First c =
    rw (c.in-First.is, ← c.slot-slot.ensures, ← c.on_first.ensures) c.placed.ensures

pub returns-in-Next : goal.returns-in-Next
returns-in-Next c =
    rw (c.in-Next.is, ← c.slot-slot-in-Next.ensures, ← c.on_next.ensures) c.placed-in-Next.ensures

pub returns-in-Ack : goal.returns-in-Ack
returns-in-Ack c = rw c.in-Ack.is

pub returns-in-Nack : goal.returns-in-Nack
returns-in-Nack c = rw c.in-Nack.is
