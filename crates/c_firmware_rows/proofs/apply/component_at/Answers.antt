use Rattle.c_firmware_rows.specs.Apply.{component_at}
use Rattle.c_firmware_rows.proofs.apply.component_at.Goals as goal

pub returns : goal.returns
unfolding component_at
returns c = rw (c.part_at-name.ensures, c.part_at-signature.ensures, c.low_unsigned.ensures, c.number_at.ensures, c.low_unsigned-2.ensures, c.number_at-2.ensures)
