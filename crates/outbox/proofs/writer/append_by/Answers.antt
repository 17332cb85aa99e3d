-- 15 and 14 by their tests; then the used bytes are walked, and the record goes behind them where they are whole.
use Prim.Native.Nat.{◌≤◌}
use mathlib.Core.Path.{◌≡◌, sym, ◌∙◌}
use native.Mathlib.Omega.{arith}
use lib.ListN.{length}
use lib.Seq.{length-take-le}
use Rattle.std.proofs.lemmas.Result.{err_from_is_err_and}
use Rattle.outbox.specs.Format.{format_for, record_bytes}
use Rattle.outbox.specs.Reader.{told_walk}
use Rattle.outbox.specs.Writer.{stored_at, if_whole, append_of}
use Rattle.outbox.proofs.Versions.{small}
use Rattle.outbox.proofs.Stored.{length-record, within-limit, append-bad, append-no-room, append-judged}
use Rattle.outbox.proofs.writer.append_by.Goals.{After-walk_used, Else-bad_record}
use Rattle.outbox.proofs.writer.append_by.Goals as goal

pub returns-then-bad_record : goal.returns-then-bad_record
returns-then-bad_record c =
    sym
    (append-bad
    (format_for c.args.version)
    c.args.stream
    c.args.payload.now
    c.args.buffer.now
    c.args.used
    c.requires.0
    c.requires.1
    (sym c.bad_record.ensures ∙ c.if-bad_record.true))

-- past the test the payload is within the limit
short : (c : Else-bad_record) → length c.args.payload.now ≤ (format_for c.args.version).limit
short c =
    within-limit (format_for c.args.version) c.args.stream c.args.payload.now (sym c.bad_record.ensures ∙ c.if-bad_record.false)

pub overflow_add-size : goal.overflow_add-size
overflow_add-size c =
    let small = small c.args.version in
    omega (arith, c.head_size.ensures, small.1, small.2, short (goal.at.overflow_add-size c).Else-bad_record)

pub returns-then-buffer-used : goal.returns-then-buffer-used
returns-then-buffer-used c =
    sym
    (append-no-room
    (format_for c.args.version)
    c.args.stream
    c.args.payload.now
    c.args.buffer.now
    c.args.used
    c.requires.0
    c.requires.1
    (sym c.bad_record.ensures ∙ c.if-bad_record.false)
    (rw c.head_size.ensures at c.if-buffer-used.true))

pub slice_bounds-walk_used-end-2 : goal.slice_bounds-walk_used-end-2
slice_bounds-walk_used-end-2 c = sym (length-take-le _ _ c.requires.0)

-- past the tests the used bytes decide
decided : (c : After-walk_used)
    →
    append_of (format_for c.args.version) c.args.buffer.now c.args.used c.args.stream c.args.payload.now
    ≡ if_whole
    (told_walk c.walk_used.result)
    c.args.buffer.now
    (stored_at c.args.buffer.now c.args.used (record_bytes (format_for c.args.version) c.args.stream c.args.payload.now))
decided c =
    rw c.walk_used.ensures
    (append-judged
    (format_for c.args.version)
    c.args.stream
    c.args.payload.now
    c.args.buffer.now
    c.args.used
    c.requires.0
    c.requires.1
    (sym c.bad_record.ensures ∙ c.if-bad_record.false)
    (omega (arith, c.head_size.ensures, c.if-buffer-used.false, c.requires.0)))

pub put_record-requires : goal.put_record-requires
put_record-requires c =
    (omega (arith, c.head_size.ensures, c.if-buffer-used.false, c.requires.0), short (goal.at.put_record-requires c).Else-bad_record)

pub returns : goal.returns
returns c =
    sym
    (decided (goal.at.returns c).After-walk_used
    ∙ rw (
      c.in_ok-walk_used.was,
      c.head_size.ensures,
      length-record (format_for c.args.version) c.args.stream c.args.payload.now,
      sym c.put_record.ensures,
    ))

pub returns-in_err-walk_used : goal.returns-in_err-walk_used
returns-in_err-walk_used c =
    let p = err_from_is_err_and c.from_residual.result c.from_residual.ensures.1 in
    rw (p.1, p.2) (sym (decided (goal.at.returns-in_err-walk_used c).After-walk_used ∙ rw c.in_err-walk_used.was))
