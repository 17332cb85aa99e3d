use Prim.Native.Nat.{ℕ}
use native.Mathlib.Omega.{arith}
use native.Mathlib.Numerals.{add-one}
use mathlib.Core.Path.{◌≡◌, refl, sym, ap, ◌∙◌}
use lib.ListN.{length-set}
use lib.Seq.{take-suc-set, take_all}
use Rattle.c_firmware_rows.specs.Apply.{components_at}
use Rattle.c_firmware_rows.proofs.Components.{read_more}
use Rattle.c_firmware_rows.proofs.apply.components_at.Goals as goal

pub loop-i-init : goal.loop-i-init
loop-i-init c = (refl, refl)

pub loop-i-preserved : goal.loop-i-preserved
loop-i-preserved c =
    let row = c.args.row.now in (
      length-set c.loop-i.components c.loop-i.i _ ∙ c.loop-i.invariant.0,
      rw (add-one, take-suc-set c.loop-i.components c.loop-i.i c.component_at.result (omega arith), c.loop-i.invariant.1, c.component_at.ensures) (sym (read_more row c.loop-i.i 9)),
    )

pub returns : goal.returns
returns c =
    let row = c.args.row.now in
    let all : c.loop-i.i ≡ 8 = omega arith in
    sym (take_all c.loop-i.i c.loop-i.components (omega arith)) ∙ c.loop-i.invariant.1 ∙ ap (λ (n : ℕ). components_at n row 9) all
