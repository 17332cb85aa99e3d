use mathlib.Core.Path.{refl, sym, ◌∙◌}
use native.Mathlib.Omega.{arith}
use Rattle.utf8.specs.Table.{rows as table}
use Rattle.utf8.proofs.Sequences.{row-read}
use Rattle.utf8.proofs.usual.four_long.Goals as goal

pub returns-then-begins_with : goal.returns-then-begins_with
unfolding table
returns-then-begins_with c =
    row-read c.all_rows-rows.result 6 4 c.args.bytes.now c.all_rows-rows.ensures (omega arith) refl (sym c.begins_with.ensures ∙ c.if-begins_with.true)

pub returns-then-begins_with-2 : goal.returns-then-begins_with-2
unfolding table
returns-then-begins_with-2 c =
    row-read c.all_rows-rows.result 7 4 c.args.bytes.now c.all_rows-rows.ensures (omega arith) refl (sym c.begins_with-2.ensures ∙ c.if-begins_with-2.true)

pub returns-then-begins_with-3 : goal.returns-then-begins_with-3
unfolding table
returns-then-begins_with-3 c =
    row-read c.all_rows-rows.result 8 4 c.args.bytes.now c.all_rows-rows.ensures (omega arith) refl (sym c.begins_with-3.ensures ∙ c.if-begins_with-3.true)
