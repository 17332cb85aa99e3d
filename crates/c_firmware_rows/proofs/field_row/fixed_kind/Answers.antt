use borrow.Author.Tests.{eq-eqb, ne_eqb}
use Rattle.c_firmware_rows.specs.FieldRow.{fixed_kind}
use Rattle.c_firmware_rows.proofs.field_row.fixed_kind.Goals as goal

pub returns-then-len-eq-EIGHT : goal.returns-then-len-eq-EIGHT
unfolding fixed_kind
returns-then-len-eq-EIGHT c = rw (eq-eqb _ _ c.if-len-eq-EIGHT.true)

pub returns-else-len-eq-EIGHT : goal.returns-else-len-eq-EIGHT
unfolding fixed_kind
returns-else-len-eq-EIGHT c = rw (ne_eqb _ _ c.if-len-eq-EIGHT.false)
