use mathlib.Core.Path.{sym, ◌∙◌}
use native.Mathlib.Omega.{arith}
use lib.ListN.{length-drop}
use Rattle.utf8.proofs.Places.{place_end, place-bad, place-passed}
use Rattle.utf8.proofs.check.place_from.Goals as goal

pub loop-at-init : goal.loop-at-init
loop-at-init c = c.requires

pub returns-in-None : goal.returns-in-None
returns-in-None c =
    let h = c.in-None.ensures in
    sym (c.loop-at.invariant.1 ∙ place-bad _ c.loop-at.at h)

pub overflow_add-at : goal.overflow_add-at
overflow_add-at c =
    let h = c.in-Some.ensures in
    omega (arith, h.0.inside, length-drop c.loop-at.at c.args.string.now)

pub loop-at-preserved : goal.loop-at-preserved
loop-at-preserved c =
    let s = c.args.string.now in
    let p = c.in-Some.ensures in
    (omega (arith, p.0.inside, length-drop c.loop-at.at s), c.loop-at.invariant.1 ∙ place-passed s c.loop-at.at c.in-Some.n p.0)

pub returns : goal.returns
returns c =
    sym (c.loop-at.invariant.1 ∙ place_end _ c.loop-at.at c.loop-at-test.false)
