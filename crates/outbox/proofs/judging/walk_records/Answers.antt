use mathlib.Core.Path.{◌≡◌, sym, ap, ◌∙◌}
use native.Mathlib.Omega.{arith}
use Rattle.outbox.specs.Format.{format_for}
use Rattle.outbox.specs.Reader.{Answer, Item, given, record_at, refusal_or, walk_of, told_judged}
use Rattle.wire.proofs.Parts.{rest-lent}
use Rattle.outbox.proofs.Walk.{decided-end, decided-here}
use Rattle.outbox.proofs.judging.walk_records.Goals.{After-judge}
use Rattle.outbox.proofs.judging.walk_records.Goals as goal

pub returns-then-place-file : goal.returns-then-place-file
returns-then-place-file c =
    let d = c.whole_up_to-place.ensures in
    sym (decided-end (format_for c.args.version) c.args.file.now c.requires c.whole_up_to-place.result d.0 d.2 c.if-place-file.true)

-- what was judged decides
judged : (c : After-judge)
    →
    (a : Answer Item) → told_judged (format_for c.args.version) c.whole_up_to-place.result c.judge.result ≡ a
    → walk_of (format_for c.args.version) c.args.file.now ≡ refusal_or a (given tt)
judged c a e =
    let place = c.whole_up_to-place.result in
    let d = c.whole_up_to-place.ensures in
    let there = c.judge.ensures place ∙ ap (record_at (format_for c.args.version) place) (rest-lent c.args.file.now place) in
    decided-here (format_for c.args.version) c.args.file.now c.requires place d.0 d.2 (omega (arith, d.1, c.if-place-file.false)) a (sym there ∙ e)

pub returns-in-Ok : goal.returns-in-Ok
returns-in-Ok c =
    sym (judged (goal.at.returns-in-Ok c).After-judge _ (ap (told_judged (format_for c.args.version) c.whole_up_to-place.result) c.in-Ok.is))

pub returns-in-Err : goal.returns-in-Err
returns-in-Err c =
    sym (judged (goal.at.returns-in-Err c).After-judge _ (ap (told_judged (format_for c.args.version) c.whole_up_to-place.result) c.in-Err.is))
