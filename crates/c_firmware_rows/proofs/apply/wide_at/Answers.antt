use Rattle.c_firmware_rows.specs.Apply.{wide_at}
use Rattle.c_firmware_rows.proofs.apply.wide_at.Goals as goal

pub returns : goal.returns
unfolding wide_at
returns c = rw (c.either.ensures, c.is_wide.ensures, c.number_at.ensures, c.is_wide-2.ensures, c.number_at-2.ensures)
