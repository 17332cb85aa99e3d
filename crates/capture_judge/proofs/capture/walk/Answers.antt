use Prim.Native.Nat.{ℕ, ◌+◌, ◌-◌, ◌≤◌}
use mathlib.Core.List.{List}
use mathlib.Core.Path.{◌≡◌, sym, ap, ◌∙◌}
use native.Mathlib.Omega.{arith}
use lib.ListN.{length, take, drop, length-drop}
use Rattle.wire.specs.Told.{given}
use Rattle.capture_reader.specs.Capture.{width, located, front_of, told_at}
use Rattle.capture_reader.proofs.Placed.{found-at, passed-on, given-there}
use Rattle.capture_judge.specs.declared.capture.Refusal.TheVariants.{Capture}
use Rattle.capture_judge.specs.Capture.{number_of}
use Rattle.capture_reader.proofs.Walking.{front-within}
use Rattle.wire.proofs.Parts.{rest-lent}
use Rattle.capture_judge.proofs.Walking.{other-refused, judging-begins, judging-ends, judging-stops, judging-goes}
use Rattle.capture_judge.proofs.capture.walk.Goals.{After-located, In_ok-size}
use Rattle.capture_judge.proofs.capture.walk.Goals as goal

pub returns-then-other_version : goal.returns-then-other_version
returns-then-other_version c = sym (other-refused _ _ _ (sym c.other_version.ensures ∙ c.if-other_version.true))

pub loop-at-init : goal.loop-at-init
loop-at-init c = judging-begins _ _ _ (sym c.other_version.ensures ∙ c.if-other_version.false) _ c.new.ensures

-- what was found is what stands there
stands : (c : After-located)
    → told_at number_of c.located.result ≡ located c.loop-at.at (front_of (drop c.loop-at.at c.args.capture.now))
stands c =
    found-at number_of Capture c.loop-at.at c.front_of.result c.located.result c.located.ensures
    ∙ ap (located c.loop-at.at) (c.front_of.ensures ∙ ap front_of (rest-lent c.args.capture.now c.loop-at.at))

pub returns-in_err-size : goal.returns-in_err-size
returns-in_err-size c =
    let e = c.in_err-size.field-0.0 in
    passed-on number_of e c.from_residual.result c.from_residual.ensures.1
    ∙ sym (judging-stops _ _ _ c.loop-at.invariant c.loop-at-test.true (number_of e.why, e.at)
    (sym (stands (goal.at.returns-in_err-size c).After-located) ∙ ap (told_at number_of) c.in_err-size.was))

-- the packet of this turn
stood : (c : In_ok-size) → front_of (drop c.loop-at.at c.args.capture.now) ≡ given c.in_ok-size.size
stood c =
    given-there c.loop-at.at _ c.in_ok-size.size
    (sym (stands (goal.at.overflow_add-start c).After-located) ∙ ap (told_at number_of) c.in_ok-size.was)

-- it lies within the capture
lies : (c : In_ok-size) → c.loop-at.at + width + c.in_ok-size.size ≤ length c.args.capture.now
lies c =
    omega (arith, (front-within _ _ (stood c)).0, length-drop c.loop-at.at c.args.capture.now, c.loop-at.invariant.walk.inside)

pub overflow_add-start : goal.overflow_add-start
overflow_add-start c = omega (arith, lies c)

pub overflow_add-next : goal.overflow_add-next
overflow_add-next c = omega (arith, lies c)

pub slice_bounds-go_on-count : goal.slice_bounds-go_on-count
slice_bounds-go_on-count c = omega (arith, lies c)

pub slice_bounds-go_on-start : goal.slice_bounds-go_on-start
slice_bounds-go_on-start c = omega (arith, lies c)

pub slice_bounds-go_on-end : goal.slice_bounds-go_on-end
slice_bounds-go_on-end c = omega (arith, lies c)

pub loop-at-smaller : goal.loop-at-smaller
loop-at-smaller c = omega (arith, lies (goal.at.loop-at-smaller c).In_ok-size)

pub loop-at-preserved : goal.loop-at-preserved
loop-at-preserved c =
    let at : ℕ = c.loop-at.at in
    let n : ℕ = c.in_ok-size.size in
    let bytes : List ℕ = c.args.capture.now in
    let z : at + width + n - (at + width) ≡ n = omega arith in
    judging-goes _ _ bytes c.loop-at.invariant c.loop-at-test.true n _ _ (stood (goal.at.loop-at-preserved c).In_ok-size) (ap (λ (i : ℕ). take i (drop (at + width) bytes)) z) c.go_on-verdict.ensures

pub returns : goal.returns
returns c = sym (judging-ends _ _ _ c.loop-at.invariant c.loop-at-test.false)
