-- One test after the other, each a line of `record_at`; past the last one the record stands whole.
use Prim.Native.Nat.{◌≤◌}
use mathlib.Core.Path.{sym, ◌∙◌}
use native.Mathlib.Omega.{arith}
use Rattle.outbox.specs.Format.{format_for}
use Rattle.outbox.proofs.Versions.{small}
use Rattle.outbox.proofs.Record.{range-passed, field-cut-read, wrong-read, cut-read, strange-read, whole-read}
use Rattle.outbox.proofs.judging.judge.Goals.{Else-either}
use Rattle.outbox.proofs.judging.judge.Goals as goal

pub returns-then-rest-width : goal.returns-then-rest-width
returns-then-rest-width c place = sym (field-cut-read (format_for c.args.version) c.args.rest.now place (rw c.width-width.ensures at c.if-rest-width.true))

pub overflow_add-limit : goal.overflow_add-limit
overflow_add-limit c = omega (arith, (small c.args.version).2)

pub returns-then-either : goal.returns-then-either
returns-then-either c place =
    sym
    (wrong-read
    (format_for c.args.version)
    c.args.rest.now
    c.length_in-n.result
    (sym c.length_in-n.ensures)
    (rw c.width-width.ensures at c.if-rest-width.false)
    place
    (rw c.limit.ensures at (sym c.either.ensures) ∙ c.if-either.true))

pub returns-then-rest-width-2 : goal.returns-then-rest-width-2
returns-then-rest-width-2 c place =
    sym
    (cut-read
    (format_for c.args.version)
    c.args.rest.now
    c.length_in-n.result
    (sym c.length_in-n.ensures)
    (rw c.width-width.ensures at c.if-rest-width.false)
    (rw c.limit.ensures at (sym c.either.ensures) ∙ c.if-either.false)
    place
    (rw c.width-width.ensures at c.if-rest-width-2.true))

-- past its test the length counts a stream byte
positive : (c : Else-either) → 1 ≤ c.length_in-n.result
positive c = (range-passed _ _ (sym c.either.ensures ∙ c.if-either.false)).0

pub bounds-rest-width : goal.bounds-rest-width
bounds-rest-width c = omega (arith, positive (goal.at.bounds-rest-width c).Else-either)

pub overflow_sub-size : goal.overflow_sub-size
overflow_sub-size c = positive (goal.at.overflow_sub-size c).Else-either

pub returns-then-is_stream : goal.returns-then-is_stream
returns-then-is_stream c place =
    rw c.width-width.ensures
    (sym
    (whole-read
    (format_for c.args.version)
    c.args.rest.now
    c.length_in-n.result
    (sym c.length_in-n.ensures)
    (rw c.width-width.ensures at c.if-rest-width.false)
    (rw c.limit.ensures at (sym c.either.ensures) ∙ c.if-either.false)
    (rw c.width-width.ensures at c.if-rest-width-2.false)
    place
    (rw c.width-width.ensures at (sym c.is_stream.ensures) ∙ c.if-is_stream.true)))

pub returns-else-is_stream : goal.returns-else-is_stream
returns-else-is_stream c place =
    sym
    (strange-read
    (format_for c.args.version)
    c.args.rest.now
    c.length_in-n.result
    (sym c.length_in-n.ensures)
    (rw c.width-width.ensures at c.if-rest-width.false)
    (rw c.limit.ensures at (sym c.either.ensures) ∙ c.if-either.false)
    (rw c.width-width.ensures at c.if-rest-width-2.false)
    place
    (rw c.width-width.ensures at (sym c.is_stream.ensures) ∙ c.if-is_stream.false))
