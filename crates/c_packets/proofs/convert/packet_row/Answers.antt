use Rattle.c_packets.proofs.convert.packet_row.Goals as goal

pub returns-in-First : goal.returns-in-First
returns-in-First c = rw c.in-First.is c.head_row.ensures

pub returns-in-Next : goal.returns-in-Next
returns-in-Next c = rw (c.in-Next.is, ← c.kind_after.ensures) c.head_row-in-Next.ensures

pub returns-in-Ack : goal.returns-in-Ack
returns-in-Ack c = rw c.in-Ack.is c.head_row-in-Ack.ensures

pub returns-in-Nack : goal.returns-in-Nack
returns-in-Nack c = rw c.in-Nack.is c.head_row-in-Nack.ensures
