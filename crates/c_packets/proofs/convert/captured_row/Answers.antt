use Rattle.c_packets.proofs.convert.captured_row.Goals as goal

pub returns-in-Err : goal.returns-in-Err
returns-in-Err c = rw c.in-Err.is
