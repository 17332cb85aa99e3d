-- 10, 11, the last and the ones between: each way out is a line of `next_step` with its tests put in.
use Rattle.ble_slot_steps.specs.Step.{off_total, next_step}
use borrow.Author.Tests.{eq-eqb, ne_eqb, leb-false}
use native.Mathlib.Omega.{arith}
use mathlib.Core.Path.{◌≡◌, sym, ◌∙◌}
use mathlib.Core.Bool.{false}
use Prim.Native.Nat.{ℕ, ◌+◌, ◌<◌}
use Rattle.ble_slot_steps.proofs.on_next.Goals as goal

below : (n k : ℕ) → n < k → k < 65536 → n < 65536
below n k l h = omega arith

pub returns-then-head-awaited : goal.returns-then-head-awaited
unfolding next_step
returns-then-head-awaited c = rw (← c.sequence_after-awaited.ensures.0, ne_eqb _ _ c.if-head-awaited.true) c.drop_by.ensures

pub returns-then-off_total : goal.returns-then-off_total
unfolding next_step
returns-then-off_total c =
    rw (
      ← c.sequence_after-awaited.ensures.0,
      eq-eqb _ _ c.if-head-awaited.false,
      ← c.wide-at.ensures.0,
      ← c.wide-total.ensures.0,
      ← c.off_total.ensures,
      c.if-off_total.true,
    )
    c.drop_by-then-off_total.ensures

pub returns-then-last : goal.returns-then-last
unfolding next_step
returns-then-last c =
    rw (
      ← c.sequence_after-awaited.ensures.0,
      eq-eqb _ _ c.if-head-awaited.false,
      ← c.wide-at.ensures.0,
      ← c.wide-total.ensures.0,
      ← c.off_total.ensures,
      c.if-off_total.false,
      c.if-last.true,
      ← c.wants.ensures,
      ← c.either-wanted.ensures,
    )
    c.finish.ensures

pub hold-requires : goal.hold-requires
hold-requires c =
    let total = c.wide-total.ensures in
    let o : off_total c.args.last (c.wide-at.result + c.args.len) c.wide-total.result ≡ false
    = sym c.off_total.ensures ∙ c.if-off_total.false in
    let e : c.wide-at.result + c.args.len < c.wide-total.result
    = leb-false c.wide-total.result (c.wide-at.result + c.args.len) (rw c.if-last.false at o) in
    (below (c.wide-at.result + c.args.len) c.wide-total.result e total.1, total.1)

pub returns : goal.returns
unfolding next_step
returns c =
    rw (
      ← c.sequence_after-awaited.ensures.0,
      eq-eqb _ _ c.if-head-awaited.false,
      ← c.wide-at.ensures.0,
      ← c.wide-total.ensures.0,
      ← c.off_total.ensures,
      c.if-off_total.false,
      c.if-last.false,
      ← c.wants.ensures,
      ← c.either-wanted.ensures,
    )
    c.hold.ensures
