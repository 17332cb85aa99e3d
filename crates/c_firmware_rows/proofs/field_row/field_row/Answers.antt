use Rattle.c_firmware_rows.proofs.field_row.field_row.Goals as goal

pub returns-in-Number : goal.returns-in-Number
returns-in-Number c = rw c.in-Number.is

pub returns-in-Bytes : goal.returns-in-Bytes
returns-in-Bytes c = rw c.in-Bytes.is

pub returns-in-Skipped : goal.returns-in-Skipped
returns-in-Skipped c = rw (c.in-Skipped.is, c.fixed_kind-kind.ensures)
