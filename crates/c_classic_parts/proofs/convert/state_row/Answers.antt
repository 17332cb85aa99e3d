use Rattle.c_classic_parts.proofs.convert.state_row.Goals as goal

pub returns : goal.returns
returns c = rw (c.wide64.ensures.0, c.stage_number.ensures, c.pending_number.ensures)
