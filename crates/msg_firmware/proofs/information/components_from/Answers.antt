use mathlib.Core.Path.{sym}
use Rattle.std.proofs.lemmas.Result.{err_from_is_err_and}
use Rattle.msg_firmware.proofs.Components.{reading_begins, reading-ends, reading-stops, reading-next}
use Rattle.msg_firmware.proofs.information.components_from.Goals as goal

pub loop-component-init : goal.loop-component-init
loop-component-init c = rw c.none-none.ensures (reading_begins _ _ c.requires)

pub returns-in_err-components : goal.returns-in_err-components
returns-in_err-components c =
    let p = err_from_is_err_and c.from_residual.result c.from_residual.ensures.1 in
    rw (p.1, p.2) (sym (reading-stops c.loop-component.invariant _ _ c.in-Some.ensures.0 _ (sym c.in_err-components.ensures)))

pub loop-component-preserved : goal.loop-component-preserved
loop-component-preserved c = reading-next c.loop-component.invariant _ _ c.in-Some.ensures.0 _ (sym c.in_ok-components.ensures)

pub returns : goal.returns
returns c = sym (reading-ends c.loop-component.invariant c.in_default.ensures.0)
