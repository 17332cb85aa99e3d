use Prim.Native.Nat.{◌+◌, ◌≤◌, ◌<◌}
use mathlib.Core.Path.{sym, ap, ◌∙◌}
use native.Mathlib.Omega.{arith}
use lib.ListN.{length}
use Rattle.outbox.specs.Format.{format_for, head_size}
use Rattle.outbox.proofs.Versions.{known-for}
use Rattle.outbox_move.specs.Moves.{told_next}
use Rattle.outbox_move.proofs.Passing.{Counting, counting-begins, counting-ends, counting-over, counting-goes, ends}
use Rattle.outbox_move.proofs.passes.count.Goals.{Else-limit-found}
use Rattle.outbox_move.proofs.passes.count.Goals as goal

pub loop-found-init : goal.loop-found-init
loop-found-init c = counting-begins (format_for c.args.wished) (format_for c.args.own) c.args.file.now

-- past the test, the turn counts the record
turn : (c : Else-limit-found)
    →
    let file = c.args.file.now in
    Counting (format_for c.args.wished) (format_for c.args.own) file c.in-Some.found.next (c.loop-found.total + head_size (format_for c.args.wished) + c.in-Some.found.size)
    × (c.loop-found.place < c.in-Some.found.next)
    × (c.in-Some.found.next ≤ length file)
turn c =
    let file = c.args.file.now in
    let e = sym c.record_at.ensures ∙ ap told_next c.in-Some.is in
    let within = ends (format_for c.args.own) file c.loop-found.place _ e in
    (counting-goes (format_for c.args.wished) (format_for c.args.own) file c.loop-found.invariant _ e (known-for c.args.wished) (known-for c.args.own) (rw c.limit.ensures at c.if-limit-found.false), within.0, within.1)

pub returns-then-limit-found : goal.returns-then-limit-found
returns-then-limit-found c =
    let file = c.args.file.now in
    counting-over (format_for c.args.wished) (format_for c.args.own) file c.loop-found.invariant _ (sym c.record_at.ensures ∙ ap told_next c.in-Some.is) (rw c.limit.ensures at c.if-limit-found.true)

pub overflow_add-total : goal.overflow_add-total
overflow_add-total c = let t = turn (goal.at.overflow_add-total c).Else-limit-found in omega (arith, c.head_size.ensures, t.0.small, t.2)

pub overflow_add-total-in-Some : goal.overflow_add-total-in-Some
overflow_add-total-in-Some c = let t = turn (goal.at.overflow_add-total-in-Some c).Else-limit-found in omega (arith, c.head_size.ensures, t.0.small, t.2)

pub loop-found-smaller : goal.loop-found-smaller
loop-found-smaller c = let t = turn (goal.at.loop-found-smaller c).Else-limit-found in omega (arith, t.1, t.2)

pub loop-found-preserved : goal.loop-found-preserved
loop-found-preserved c = rw c.head_size.ensures (turn (goal.at.loop-found-preserved c).Else-limit-found).0

pub returns : goal.returns
returns c =
    let file = c.args.file.now in
    counting-ends (format_for c.args.wished) (format_for c.args.own) file c.loop-found.invariant (sym c.record_at.ensures ∙ ap told_next c.in_default.is)
