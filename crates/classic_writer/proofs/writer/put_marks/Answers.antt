use mathlib.Core.Path.{◌≡◌, refl, sym, ◌∙◌}
use lib.ListN.{length}
use native.Mathlib.Omega.{arith}
use borrow.Author.Rules.{rules}
use Rattle.classic_writer.proofs.Escaping.{left_here, left-then, left-mark}
use Rattle.classic_writer.proofs.writer.put_marks.Goals as goal

pub loop-end-init : goal.loop-end-init
loop-end-init c = (refl, omega arith, left_here c.requires.i_in_bounds)

pub shape_of-out-then-not-is_mark : goal.shape_of-out-then-not-is_mark
shape_of-out-then-not-is_mark c = c.loop-end.invariant.0

pub returns-then-not-is_mark : goal.returns-then-not-is_mark
returns-then-not-is_mark c = let k = c.loop-end.invariant in rw k.1 at k.2

pub put_code-at-requires : goal.put_code-at-requires
put_code-at-requires c =
    let b = left-mark c.args.bytes.now c.loop-end.out c.loop-end.at c.loop-end.end (search rules) (sym c.is_mark.ensures ∙ c.if-not-is_mark.false) in
    omega (arith, c.loop-end.invariant.2.size, b.size, c.loop-end.invariant.0, c.requires.bytes_in_bounds)

pub loop-end-preserved : goal.loop-end-preserved
loop-end-preserved c =
    let b = left-mark c.args.bytes.now c.loop-end.out c.loop-end.at c.loop-end.end (search rules) (sym c.is_mark.ensures ∙ c.if-not-is_mark.false) in (
      c.put_code-at.auto.out ∙ c.loop-end.invariant.0,
      omega (arith, c.put_code-at.ensures.0, c.loop-end.invariant.1, c.loop-end.invariant.2.from),
      left-then c.loop-end.invariant.2 (rw (c.put_code-at.ensures.0, c.put_code-at.ensures.1, c.code_for.ensures) b),
    )

pub shape_of-out : goal.shape_of-out
shape_of-out c = c.loop-end.invariant.0

pub returns : goal.returns
returns c =
    let k = c.loop-end.invariant in
    let all : c.loop-end.end ≡ length c.args.bytes.now = omega (arith, k.2.within) in
    rw (k.1, all) at k.2
