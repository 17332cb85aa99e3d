use Rattle.c_packets.proofs.convert.front_row.Goals as goal

pub returns-in-Ok : goal.returns-in-Ok
returns-in-Ok c = rw c.in-Ok.is c.packet_row.ensures
