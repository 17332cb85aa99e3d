use mathlib.Core.Path.{refl, sym, ap, ◌∙◌}
use native.Mathlib.Omega.{arith}
use Rattle.msg_apply_writer.specs.Information.{bad_components}
use Rattle.msg_apply_writer.proofs.Listed.{listed_here, listed-end}
use borrow.Author.Rules.{rules}
use Rattle.msg_apply_writer.proofs.information.bad_components.Goals as goal

pub loop-component-init : goal.loop-component-init
loop-component-init c = (search rules, refl)

pub returns-then-bad_component : goal.returns-then-bad_component
returns-then-bad_component c =
    let e = ap (bad_components c.args.texts.now) (listed_here c.args.components.now c.loop-component.component-index c.loop-component-test.true) in
    sym (c.loop-component.invariant.1 ∙ e ∙ rw (sym c.bad_component.ensures ∙ c.if-bad_component.true))

pub loop-component-preserved : goal.loop-component-preserved
loop-component-preserved c =
    let e = ap (bad_components c.args.texts.now) (listed_here c.args.components.now c.loop-component.component-index c.loop-component-test.true) in
    (omega arith, c.loop-component.invariant.1 ∙ e ∙ rw (sym c.bad_component.ensures ∙ c.if-bad_component.false))

pub returns : goal.returns
returns c =
    sym (c.loop-component.invariant.1 ∙ ap (bad_components c.args.texts.now) (listed-end c.args.components.now c.loop-component.component-index c.loop-component-test.false))
