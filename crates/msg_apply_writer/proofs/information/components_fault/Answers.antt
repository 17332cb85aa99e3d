use Prim.Native.Nat.{◌+◌}
use mathlib.Core.Path.{refl, sym, ap, ◌∙◌}
use native.Mathlib.Omega.{arith}
use lib.ListN.{drop, get_or}
use Rattle.std.proofs.lemmas.Result.{err_from_is_err_and}
use Rattle.proto_strings.specs.Texts.{fault_from, first_fault}
use Rattle.msg_firmware.specs.Component.{no_component}
use Rattle.msg_apply_writer.specs.Information.{components_strings}
use Rattle.proto_strings.proofs.Texts.{fault-stays}
use Rattle.msg_apply_writer.proofs.Texts.{components-fine}
use Rattle.msg_apply_writer.proofs.Listed.{listed_here, listed-end}
use borrow.Author.Rules.{rules}
use Rattle.msg_apply_writer.proofs.information.components_fault.Goals as goal

pub loop-component-init : goal.loop-component-init
loop-component-init c = (search rules, c.requires, refl)

pub check_component-requires : goal.check_component-requires
check_component-requires c =
    let i = c.loop-component.component-index in
    let here = listed_here c.args.components.now i c.loop-component-test.true in
    (components-fine c.args.texts.now (get_or c.args.components.now i no_component) (drop (i + 1) c.args.components.now) (rw here at c.loop-component.invariant.1)).0

pub returns-in_err-check_component : goal.returns-in_err-check_component
returns-in_err-check_component c =
    let i = c.loop-component.component-index in
    let here = listed_here c.args.components.now i c.loop-component-test.true in
    let rest = drop (i + 1) c.args.components.now in
    let p = err_from_is_err_and c.from_residual.result c.from_residual.ensures.1 in
    rw (p.1, p.2)
    (fault-stays _ (components_strings c.args.texts.now rest) ∙ ap (λ f. fault_from f (components_strings c.args.texts.now rest)) c.in_err-check_component.ensures
    ∙ sym (c.loop-component.invariant.2 ∙ ap (λ cs. first_fault (components_strings c.args.texts.now cs)) here))

pub loop-component-preserved : goal.loop-component-preserved
loop-component-preserved c =
    let i = c.loop-component.component-index in
    let here = listed_here c.args.components.now i c.loop-component-test.true in
    let rest = drop (i + 1) c.args.components.now in (
      omega arith,
      (components-fine c.args.texts.now (get_or c.args.components.now i no_component) rest (rw here at c.loop-component.invariant.1)).1,
      c.loop-component.invariant.2 ∙ ap (λ cs. first_fault (components_strings c.args.texts.now cs)) here ∙ ap (λ f. fault_from f (components_strings c.args.texts.now rest)) (sym c.in_ok-check_component.ensures),
    )

pub returns : goal.returns
returns c =
    sym (c.loop-component.invariant.2 ∙ ap (λ cs. first_fault (components_strings c.args.texts.now cs)) (listed-end c.args.components.now c.loop-component.component-index c.loop-component-test.false))
