use Rattle.c_firmware_rows.specs.Apply.{apply_at}
use Rattle.c_firmware_rows.proofs.apply.apply_at.Goals as goal

pub returns : goal.returns
unfolding apply_at
returns c = rw (c.part_at-name.ensures, c.part_at-locale.ensures, c.part_at-version_name.ensures, c.components_at-components.ensures, c.low_unsigned.ensures, c.number_at.ensures, c.number_at-2.ensures, c.number_at-3.ensures)
