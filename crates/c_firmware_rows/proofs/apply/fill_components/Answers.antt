use lib.Seq.{length-sets}
use Rattle.msg_firmware.specs.declared.component.FirmwareComponent.{FirmwareComponent}
use mathlib.Core.List.{List}
use native.Mathlib.Omega.{arith}
use mathlib.Core.Path.{refl, ap, ◌∙◌}
use lib.Seq.{sets, take_all}
use Rattle.c_firmware_rows.specs.Apply.{component_rows}
use Rattle.c_firmware_rows.proofs.Components.{rows_more}
use Rattle.c_firmware_rows.proofs.apply.fill_components.Goals as goal

pub loop-i-init : goal.loop-i-init
loop-i-init c = (refl, refl)

pub fill-requires : goal.fill-requires
fill-requires c = rw c.component_row-numbers.ensures (omega (arith, c.loop-i.invariant.0, c.requires))

pub loop-i-preserved : goal.loop-i-preserved
loop-i-preserved c =
    let filled = c.fill.ensures in (
      rw (filled, length-sets) c.loop-i.invariant.0,
      rw (filled, c.component_row-numbers.ensures, c.loop-i.invariant.1) (rows_more c.args.row.now c.args.components c.loop-i.i _ refl (omega (arith, c.well_formed.1.0.1.0.1))),
    )

pub returns : goal.returns
returns c =
    let eight = c.well_formed.1.0.1.0.1 in
    let all = take_all c.loop-i.i c.args.components (omega (arith, eight)) in record { row_after = c.loop-i.invariant.1 ∙ ap (λ (cs : List FirmwareComponent). sets c.args.row.now 9 (component_rows cs)) all; components_len = eight }
