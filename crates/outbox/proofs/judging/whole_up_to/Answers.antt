use mathlib.Core.Path.{◌≡◌, sym, ap, ◌∙◌}
use native.Mathlib.Omega.{arith}
use lib.ListN.{drop}
use Rattle.outbox.specs.Format.{format_for}
use Rattle.outbox.specs.Reader.{given, found, found_at, record_at, told_judged}
use Rattle.wire.proofs.Parts.{rest-lent}
use Rattle.outbox.proofs.Place.{found_within}
use Rattle.outbox.proofs.Walk.{walk_begins, walk_ends, walk-stops, walk-goes}
use Rattle.outbox.proofs.judging.whole_up_to.Goals.{In-Ok}
use Rattle.outbox.proofs.judging.whole_up_to.Goals as goal

pub loop-place-init : goal.loop-place-init
loop-place-init c = walk_begins (format_for c.args.version) c.args.file.now c.requires

-- the record of this turn
stood : (c : In-Ok)
    →
    record_at (format_for c.args.version) c.loop-place.place (drop c.loop-place.place c.args.file.now)
    ≡ given (found (found_at (format_for c.args.version) c.loop-place.place c.in-Ok.judged.stream c.in-Ok.judged.size))
stood c =
    let place = c.loop-place.place in
    sym (c.judge.ensures place ∙ ap (record_at (format_for c.args.version) place) (rest-lent c.args.file.now place))
    ∙ ap (told_judged (format_for c.args.version) place) c.in-Ok.is

pub overflow_add-place : goal.overflow_add-place
overflow_add-place c =
    let k = (goal.at.overflow_add-place c).In-Ok in
    omega (arith, c.head_size.ensures, (walk-goes (format_for k.args.version) k.args.file.now k.loop-place.invariant k.loop-place-test.true _ (stood k)).inside)

pub loop-place-preserved : goal.loop-place-preserved
loop-place-preserved c =
    rw c.head_size.ensures
    (walk-goes (format_for c.args.version) c.args.file.now c.loop-place.invariant c.loop-place-test.true _ (stood (goal.at.loop-place-preserved c).In-Ok))

pub overflow_add-place-in-Ok : goal.overflow_add-place-in-Ok
overflow_add-place-in-Ok c = omega (arith, (loop-place-preserved c).inside)

pub loop-place-smaller : goal.loop-place-smaller
loop-place-smaller c =
    omega (arith, c.head_size.ensures, (found_within (format_for c.args.version) c.args.file.now c.loop-place.place _ c.loop-place.invariant.inside (stood (goal.at.loop-place-smaller c).In-Ok)).0)

pub returns-in-Err : goal.returns-in-Err
returns-in-Err c =
    let w = c.loop-place.invariant in
    let place = c.loop-place.place in
    let judged = c.judge.ensures place ∙ ap (record_at (format_for c.args.version) place) (rest-lent c.args.file.now place) in (
      w.first,
      w.inside,
      walk-stops (format_for c.args.version) c.args.file.now w c.loop-place-test.true _ (sym judged ∙ ap (told_judged (format_for c.args.version) place) c.in-Err.is),
    )

pub returns : goal.returns
returns c =
    let w = c.loop-place.invariant in
    (w.first, w.inside, walk_ends (format_for c.args.version) c.args.file.now w c.loop-place-test.false)
