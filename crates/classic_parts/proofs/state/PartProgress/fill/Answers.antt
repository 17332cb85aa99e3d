use mathlib.Core.Path.{sym, ap, ◌∙◌}
use lib.ListN.{length-set}
use native.Mathlib.Omega.{arith}
use Rattle.classic_parts.specs.Byte.{told_byte}
use Rattle.classic_parts.proofs.Filling.{filling-begins, filling-on, filling-taken, filling-byte, filling-stops, filling-full, offered-rest}
use Rattle.classic_parts.proofs.state.PartProgress.fill.Goals as goal

pub loop-out-init : goal.loop-out-init
loop-out-init c = filling-begins _ _ _

pub pass-passed-requires : goal.pass-passed-requires
pass-passed-requires c = let k = c.loop-out.invariant in record { taken_in_bounds = k.offered; at_in_bounds = omega (arith, k.within, k.same) }

pub shape_of-out-then-i-out : goal.shape_of-out-then-i-out
shape_of-out-then-i-out c =
    (filling-on c.loop-out.invariant c.pass-passed.ensures).same

pub returns-then-i-out : goal.returns-then-i-out
returns-then-i-out c =
    let on = filling-on c.loop-out.invariant c.pass-passed.ensures in
    rw c.stop.ensures (filling-full on (omega (arith, c.if-i-out.true, on.same)))

pub slice_bounds-emit-start : goal.slice_bounds-emit-start
slice_bounds-emit-start c =
    (filling-on c.loop-out.invariant c.pass-passed.ensures).offered

pub returns-in_default : goal.returns-in_default
returns-in_default c =
    rw c.stop-in_default.ensures (filling-stops (filling-on c.loop-out.invariant c.pass-passed.ensures) (sym (ap told_byte c.in_default.is) ∙ c.emit.ensures ∙ offered-rest c.pass-passed.result.next c.args.payload.now c.pass-passed.result.taken))

pub overflow_add-taken : goal.overflow_add-taken
overflow_add-taken c =
    omega (arith, filling-taken (filling-on c.loop-out.invariant c.pass-passed.ensures) (sym (ap told_byte c.in-Some.is) ∙ c.emit.ensures ∙ offered-rest c.pass-passed.result.next c.args.payload.now c.pass-passed.result.taken))

pub loop-out-smaller : goal.loop-out-smaller
loop-out-smaller c =
    simp length-set (omega (arith, c.pass-passed.ensures.from, c.pass-passed.ensures.same, c.if-i-out.false))

pub loop-out-preserved : goal.loop-out-preserved
loop-out-preserved c =
    let on = filling-on c.loop-out.invariant c.pass-passed.ensures in
    filling-byte on (sym (ap told_byte c.in-Some.is) ∙ c.emit.ensures ∙ offered-rest c.pass-passed.result.next c.args.payload.now c.pass-passed.result.taken) (omega (arith, c.if-i-out.false, on.same))
