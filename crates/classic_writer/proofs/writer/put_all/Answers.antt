use Prim.Native.Nat.{◌-◌, ◌+◌, zero-le}
use mathlib.Core.Path.{refl, ◌∙◌}
use native.Mathlib.Omega.{arith}
use borrow.Author.Rules.{rules}
use Rattle.classic_writer.proofs.Escaping.{left_here, left-then, left-byte, left_end}
use Rattle.classic_writer.proofs.writer.put_all.Goals as goal

pub loop-at-init : goal.loop-at-init
loop-at-init c = (refl, left_here zero-le)

pub put_plain-end-requires : goal.put_plain-end-requires
put_plain-end-requires c = record { i_in_bounds = c.loop-at.invariant.1.within; bytes_in_bounds = omega (arith, c.loop-at.invariant.1.size, c.loop-at.invariant.0, c.requires) }

pub overflow_sub-place : goal.overflow_sub-place
overflow_sub-place c = c.put_plain-end.ensures.from

pub overflow_add-place : goal.overflow_add-place
overflow_add-place c =
    let on = left-then c.loop-at.invariant.1 c.put_plain-end.ensures in
    omega (arith, on.size, c.requires)

pub shape_of-out-then-end-bytes : goal.shape_of-out-then-end-bytes
shape_of-out-then-end-bytes c =
    c.put_plain-end.auto.out ∙ c.loop-at.invariant.0

pub returns-then-end-bytes : goal.returns-then-end-bytes
returns-then-end-bytes c =
    let on = left-then c.loop-at.invariant.1 c.put_plain-end.ensures in
    left_end on (search rules)

pub put_escaped-place-requires : goal.put_escaped-place-requires
put_escaped-place-requires c =
    let on = left-then c.loop-at.invariant.1 c.put_plain-end.ensures in
    let b = left-byte c.args.bytes.now c.put_plain-end.new.out (c.loop-at.place + (c.put_plain-end.result - c.loop-at.i)) c.put_plain-end.result (search rules) in
    omega (arith, on.size, b.size, c.put_plain-end.auto.out, c.loop-at.invariant.0, c.requires)

pub put_marks-i-requires : goal.put_marks-i-requires
put_marks-i-requires c =
    let on = left-then c.loop-at.invariant.1 c.put_plain-end.ensures in
    let b = left-byte c.args.bytes.now c.put_plain-end.new.out (c.loop-at.place + (c.put_plain-end.result - c.loop-at.i)) c.put_plain-end.result (search rules) in record { i_in_bounds = b.within; bytes_in_bounds = omega (arith, on.size, b.size, c.put_escaped-place.ensures.0, c.put_escaped-place.auto.out, c.put_plain-end.auto.out, c.loop-at.invariant.0, c.requires) }

pub overflow_sub-place-in-loop-at : goal.overflow_sub-place-in-loop-at
overflow_sub-place-in-loop-at c = c.put_marks-i.ensures.from

pub overflow_mul-place : goal.overflow_mul-place
overflow_mul-place c =
    let on = left-then c.loop-at.invariant.1 c.put_plain-end.ensures in
    let b = left-byte c.args.bytes.now c.put_plain-end.new.out (c.loop-at.place + (c.put_plain-end.result - c.loop-at.i)) c.put_plain-end.result (search rules) in
    omega (arith, on.size, b.size, c.put_escaped-place.ensures.0, c.put_marks-i.ensures.size, c.requires)

pub overflow_add-place-in-loop-at : goal.overflow_add-place-in-loop-at
overflow_add-place-in-loop-at c =
    let on = left-then c.loop-at.invariant.1 c.put_plain-end.ensures in
    let b = left-byte c.args.bytes.now c.put_plain-end.new.out (c.loop-at.place + (c.put_plain-end.result - c.loop-at.i)) c.put_plain-end.result (search rules) in
    omega (arith, on.size, b.size, c.put_escaped-place.ensures.0, c.put_marks-i.ensures.size, c.requires)

pub loop-at-smaller : goal.loop-at-smaller
loop-at-smaller c =
    omega (arith, c.put_marks-i.ensures.from, c.put_plain-end.ensures.from)

pub loop-at-preserved : goal.loop-at-preserved
loop-at-preserved c =
    let on = left-then c.loop-at.invariant.1 c.put_plain-end.ensures in (
      c.put_marks-i.auto.out ∙ c.put_escaped-place.auto.out ∙ c.put_plain-end.auto.out ∙ c.loop-at.invariant.0,
      left-then
          (left-then on
          (rw (c.put_escaped-place.ensures.0, c.put_escaped-place.ensures.1)
          (left-byte c.args.bytes.now c.put_plain-end.new.out (c.loop-at.place + (c.put_plain-end.result - c.loop-at.i)) c.put_plain-end.result (search rules))))
          c.put_marks-i.ensures,
    )
