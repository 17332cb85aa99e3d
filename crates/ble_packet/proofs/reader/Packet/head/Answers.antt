use Rattle.ble_packet.proofs.reader.Packet.head.Goals as goal

pub returns-in-First : goal.returns-in-First
returns-in-First c = rw c.in-First.is

pub returns-in-Next : goal.returns-in-Next
returns-in-Next c = rw c.in-Next.is
