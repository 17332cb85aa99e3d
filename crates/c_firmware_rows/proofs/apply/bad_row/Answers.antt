use borrow.Author.Tests.{lt-ltb, le-ltb}
use Rattle.c_firmware_rows.specs.Apply.{bad_row}
use Rattle.c_firmware_rows.proofs.apply.bad_row.Goals as goal

pub returns-then-number_at-gt1 : goal.returns-then-number_at-gt1
unfolding bad_row
returns-then-number_at-gt1 c = rw (← c.number_at.ensures, lt-ltb _ _ c.if-number_at-gt1.true)

pub returns-then-is_wide : goal.returns-then-is_wide
unfolding bad_row
returns-then-is_wide c = rw (← c.number_at.ensures, le-ltb _ _ c.if-number_at-gt1.false, ← c.number_at-2.ensures, ← c.is_wide.ensures, c.if-is_wide.true)

pub returns-then-count-gt-MOST_REPEATED : goal.returns-then-count-gt-MOST_REPEATED
unfolding bad_row
returns-then-count-gt-MOST_REPEATED c = rw (← c.number_at.ensures, le-ltb _ _ c.if-number_at-gt1.false, ← c.number_at-2.ensures, ← c.is_wide.ensures, c.if-is_wide.false, ← c.number_at-count.ensures, lt-ltb _ _ c.if-count-gt-MOST_REPEATED.true)

pub returns : goal.returns
unfolding bad_row
returns c = rw (← c.number_at.ensures, le-ltb _ _ c.if-number_at-gt1.false, ← c.number_at-2.ensures, ← c.is_wide.ensures, c.if-is_wide.false, ← c.number_at-count.ensures, le-ltb _ _ c.if-count-gt-MOST_REPEATED.false) c.any_wide.ensures
