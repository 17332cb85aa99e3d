use Rattle.c_firmware_rows.proofs.apply.part_at.Goals as goal

pub returns : goal.returns
returns c = rw (c.number_at-start.ensures, c.number_at-len.ensures)
