use native.Mathlib.Omega.{arith}
use mathlib.Core.Path.{refl, sym, ◌∙◌}
use borrow.Author.Tests.{not-true, not-false}
use borrow.Author.Rules.{rules}
use Rattle.c_message_rows.proofs.Signed.{signed-more, signed-stop, signed-end}
use Rattle.c_message_rows.proofs.convert.all_signed.Goals as goal

pub loop-n-init : goal.loop-n-init
loop-n-init c = (search rules, refl)

pub returns-then-not-is_signed : goal.returns-then-not-is_signed
returns-then-not-is_signed c =
    let row = c.args.row.now in
    sym (signed-stop row c.loop-n.n-index (search rules) (sym c.is_signed.ensures ∙ not-true _ c.if-not-is_signed.true-raw)) ∙ c.loop-n.invariant.1

pub loop-n-preserved : goal.loop-n-preserved
loop-n-preserved c =
    let row = c.args.row.now in
    (omega arith, sym (signed-more row c.loop-n.n-index (search rules) (sym c.is_signed.ensures ∙ not-false _ c.if-not-is_signed.false-raw)) ∙ c.loop-n.invariant.1)

pub returns : goal.returns
returns c =
    let row = c.args.row.now in
    sym (signed-end row c.loop-n.n-index (search rules)) ∙ c.loop-n.invariant.1
