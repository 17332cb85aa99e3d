use Prim.Native.Nat.{ℕ, suc, ◌+◌, ◌-◌, ◌*◌}
use native.Mathlib.Omega.{arith}
use mathlib.Core.Path.{◌≡◌, sym, ap, ◌∙◌}
use Rattle.c_firmware_rows.specs.Apply.{any_wide}
use Rattle.c_firmware_rows.proofs.Components.{wide-stop, wide-more}
use Rattle.c_firmware_rows.proofs.apply.any_wide.Goals as goal

pub wide_at-requires : goal.wide_at-requires
wide_at-requires c = omega (arith, c.requires)

pub returns-then-wide_at : goal.returns-then-wide_at
returns-then-wide_at c =
    let row = c.args.row.now in
    sym (wide-stop row (c.args.count - c.loop-i.i) (9 + 6 * c.loop-i.i) (omega arith) (sym c.wide_at.ensures ∙ c.if-wide_at.true)) ∙ c.loop-i.invariant

pub loop-i-preserved : goal.loop-i-preserved
loop-i-preserved c =
    let row = c.args.row.now in
    let count = c.args.count in
    let at = 9 + 6 * c.loop-i.i in
    let left : count - c.loop-i.i ≡ suc (count - (c.loop-i.i + 1)) = omega arith in
    let next : 9 + 6 * (c.loop-i.i + 1) ≡ at + 6 = omega arith in
    ap (λ (x : ℕ). any_wide (count - (c.loop-i.i + 1)) row x) next
    ∙ sym (ap (λ (n : ℕ). any_wide n row at) left ∙ wide-more row (count - (c.loop-i.i + 1)) at (sym c.wide_at.ensures ∙ c.if-wide_at.false)) ∙ c.loop-i.invariant

pub returns : goal.returns
returns c =
    let row = c.args.row.now in
    let none : 0 ≡ c.args.count - c.loop-i.i = omega arith in
    ap (λ (n : ℕ). any_wide n row (9 + 6 * c.loop-i.i)) none ∙ c.loop-i.invariant
