use mathlib.Core.Path.{refl}
use native.Mathlib.Omega.{arith}
use borrow.Author.Rules.{rules}
use Rattle.classic_feed.proofs.Loop.{Running, running-end, running-stop, running_more}
use Rattle.classic_feed.proofs.Onwards.{running-on}
use Rattle.classic_feed.proofs.many.run.Goals.{After-rebuilt-state}
use Rattle.classic_feed.proofs.many.run.Goals as goal

pub loop-i-init : goal.loop-i-init
loop-i-init c = record { within = search rules; fits = c.requires; same = refl; rest = refl }

pub pass-passed-requires : goal.pass-passed-requires
pass-passed-requires c = record { fits = c.loop-i.invariant.fits; i_in_bounds = c.loop-i.invariant.within }

-- what holds at the test, once bytes were passed
passed : (c : After-rebuilt-state)
    →
    Running c.args.limit c.args.bytes.now c.args.buffer.now c.args.start c.pass-passed.new.buffer c.rebuilt-state.result c.pass-passed.result.at
passed c =
    running-on c.loop-i.invariant c.pass-passed.ensures c.pass-passed.auto.buffer c.rebuilt-state.ensures

pub shape_of-buffer-then-i-bytes : goal.shape_of-buffer-then-i-bytes
shape_of-buffer-then-i-bytes c = (passed (goal.at.shape_of-buffer-then-i-bytes c).After-rebuilt-state).same

pub returns-then-i-bytes : goal.returns-then-i-bytes
returns-then-i-bytes c = rw c.ended.ensures (running-end (passed (goal.at.returns-then-i-bytes c).After-rebuilt-state) (search rules), refl)

pub fast_step-done-requires : goal.fast_step-done-requires
fast_step-done-requires c = (passed (goal.at.fast_step-done-requires c).After-rebuilt-state).fits

pub overflow_add-i : goal.overflow_add-i
overflow_add-i c =
    let on = running-on c.loop-i.invariant c.pass-passed.ensures c.pass-passed.auto.buffer c.rebuilt-state.ensures in
    omega (arith, on.within)

pub returns-in-Frame : goal.returns-in-Frame
returns-in-Frame c =
    let stop = rw c.in-Frame.is at (running-stop (passed (goal.at.returns-in-Frame c).After-rebuilt-state) c.fast_step-done.ensures c.if-i-bytes.false c.rebuilt-state-in-loop-i.ensures (rw c.in-Frame.is)) in
    rw c.ended-in-Frame.ensures (stop, refl)

pub returns-in-Refused : goal.returns-in-Refused
returns-in-Refused c =
    let stop = rw c.in-Refused.is at (running-stop (passed (goal.at.returns-in-Refused c).After-rebuilt-state) c.fast_step-done.ensures c.if-i-bytes.false c.rebuilt-state-in-loop-i.ensures (rw c.in-Refused.is)) in
    rw c.ended-in-Refused.ensures (stop, refl)

pub loop-i-smaller : goal.loop-i-smaller
loop-i-smaller c = omega (arith, c.pass-passed.ensures.from)

pub loop-i-preserved-in-Skipped : goal.loop-i-preserved-in-Skipped
loop-i-preserved-in-Skipped c =
    running_more (passed (goal.at.loop-i-preserved-in-Skipped c).After-rebuilt-state) c.fast_step-done.ensures (search rules) c.rebuilt-state-in-loop-i.ensures (rw c.in-Skipped.is) c.fast_step-done.auto.buffer

pub loop-i-preserved : goal.loop-i-preserved
loop-i-preserved c =
    running_more (passed (goal.at.loop-i-preserved c).After-rebuilt-state) c.fast_step-done.ensures (search rules) c.rebuilt-state-in-loop-i.ensures (rw c.in-Taken.is) c.fast_step-done.auto.buffer
