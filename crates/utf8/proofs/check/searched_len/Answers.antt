use mathlib.Core.Path.{sym, ap, ◌∙◌}
use Rattle.utf8.specs.Table.{row_of}
use Rattle.utf8.proofs.Sequences.{sequence-by, sequence-none, sequence-no_row}
use Rattle.utf8.proofs.check.searched_len.Goals as goal

pub returns-in_err-row : goal.returns-in_err-row
returns-in_err-row c =
    rw c.from_residual.ensures (sequence-no_row c.args.bytes.now (rw c.byte_at.ensures at c.in_err-row.ensures))

pub returns-then-begins_with : goal.returns-then-begins_with
returns-then-begins_with c =
    let row = c.in_ok-row.ensures.0 ∙ ap row_of c.byte_at.ensures in
    (sequence-by c.args.bytes.now c.in_ok-row.row.now row (sym c.begins_with.ensures ∙ c.if-begins_with.true), c.in_ok-row.ensures.1)

pub returns-else-begins_with : goal.returns-else-begins_with
returns-else-begins_with c =
    let row = c.in_ok-row.ensures.0 ∙ ap row_of c.byte_at.ensures in
    sequence-none c.args.bytes.now c.in_ok-row.row.now row (sym c.begins_with.ensures ∙ c.if-begins_with.false)
