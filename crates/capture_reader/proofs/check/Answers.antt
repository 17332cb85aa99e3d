use Prim.Native.Nat.{◌+◌, ◌≤◌}
use mathlib.Core.Path.{◌≡◌, refl, sym, ap, ◌∙◌}
use native.Mathlib.Omega.{arith}
use lib.ListN.{length, drop, length-drop}
use Rattle.wire.specs.Told.{given}
use Rattle.wire.proofs.Parts.{rest-lent}
use Rattle.capture_reader.specs.Capture.{width, located, told_at, front_of, number_of}
use Rattle.capture_reader.proofs.Placed.{found-at, passed-on, given-there}
use Rattle.capture_reader.proofs.Walking.{check-refused, check-begins, walk_ends, walk-stops, walk-goes, front-within}
use Rattle.capture_reader.proofs.check.Goals.{After-located, In_ok-n}
use Rattle.capture_reader.proofs.check.Goals as goal

pub returns-then-other_version : goal.returns-then-other_version
returns-then-other_version c = sym (check-refused _ (sym c.other_version.ensures ∙ c.if-other_version.true))

pub loop-at-init : goal.loop-at-init
loop-at-init c = check-begins _ (sym c.other_version.ensures ∙ c.if-other_version.false)

-- what was found is what stands there
stands : (c : After-located)
    → told_at number_of c.located.result ≡ located c.loop-at.at (front_of (drop c.loop-at.at c.args.capture.now))
stands c =
    found-at number_of (λ e. e) c.loop-at.at c.front_of.result c.located.result c.located.ensures
    ∙ ap (located c.loop-at.at) (c.front_of.ensures ∙ ap front_of (rest-lent c.args.capture.now c.loop-at.at))

pub returns-in_err-n : goal.returns-in_err-n
returns-in_err-n c =
    let e = c.in_err-n.field-0.0 in
    passed-on number_of e c.from_residual.result c.from_residual.ensures.1
    ∙ sym (walk-stops _ c.loop-at.invariant c.loop-at-test.true (number_of e.why, e.at)
    (sym (stands (goal.at.returns-in_err-n c).After-located) ∙ ap (told_at number_of) c.in_err-n.was))

-- the packet of this turn
stood : (c : In_ok-n) → front_of (drop c.loop-at.at c.args.capture.now) ≡ given c.in_ok-n.n
stood c =
    given-there c.loop-at.at _ c.in_ok-n.n
    (sym (stands (goal.at.overflow_add-at c).After-located) ∙ ap (told_at number_of) c.in_ok-n.was)

-- it lies within the capture
lies : (c : In_ok-n) → c.loop-at.at + width + c.in_ok-n.n ≤ length c.args.capture.now
lies c = omega (arith, (front-within _ _ (stood c)).0, length-drop c.loop-at.at c.args.capture.now, c.loop-at.invariant.inside)

pub overflow_add-at : goal.overflow_add-at
overflow_add-at c = omega (arith, lies c)

pub overflow_add-at-in-loop-at : goal.overflow_add-at-in-loop-at
overflow_add-at-in-loop-at c = omega (arith, lies c)

pub loop-at-smaller : goal.loop-at-smaller
loop-at-smaller c = omega (arith, lies (goal.at.loop-at-smaller c).In_ok-n)

pub loop-at-preserved : goal.loop-at-preserved
loop-at-preserved c =
    walk-goes _ c.loop-at.invariant c.loop-at-test.true _ _ _ (stood (goal.at.loop-at-preserved c).In_ok-n) refl (λ ps. refl)

pub returns : goal.returns
returns c = sym (walk_ends _ c.loop-at.invariant c.loop-at-test.false)
