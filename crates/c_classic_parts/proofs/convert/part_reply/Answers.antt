use Rattle.c_classic_parts.proofs.convert.part_reply.Goals as goal

pub returns-in-Ok : goal.returns-in-Ok
returns-in-Ok c = rw (c.in-Ok.is, c.bit64.ensures.0)

pub returns-in-Err : goal.returns-in-Err
returns-in-Err c = rw (c.in-Err.is, c.wide64.ensures.0, c.number.ensures)
