use mathlib.Core.Path.{refl, sym, ◌∙◌}
use Rattle.utf8.specs.Table.{row_of}
use Rattle.utf8.proofs.Sequences.{row_here, row-later, row-at, row-long}
use Rattle.utf8.proofs.table.row_of.Goals as goal

pub loop-row-init : goal.loop-row-init
unfolding row_of
loop-row-init c = refl

pub bounds-row-0 : goal.bounds-row-0
bounds-row-0 c =
    rw (row-at c.all_rows-row-items.result c.loop-row.row-index c.all_rows-row-items.ensures) (row-long c.loop-row.row-index c.loop-row-test.true)

pub returns-then-is_within : goal.returns-then-is_within
returns-then-is_within c =
    let i = c.loop-row.row-index in
    let e = row-at c.all_rows-row-items.result i c.all_rows-row-items.ensures in
    let w = rw e at (sym c.is_within.ensures ∙ c.if-is_within.true) in
    (e ∙ sym (c.loop-row.invariant ∙ row_here c.args.lead i c.loop-row-test.true w), rw e (row-long i c.loop-row-test.true))

pub loop-row-preserved : goal.loop-row-preserved
loop-row-preserved c =
    let i = c.loop-row.row-index in
    let e = row-at c.all_rows-row-items.result i c.all_rows-row-items.ensures in
    let w = rw e at (sym c.is_within.ensures ∙ c.if-is_within.false) in
    c.loop-row.invariant ∙ row-later c.args.lead i c.loop-row-test.true w
