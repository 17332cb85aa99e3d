use Prim.Native.Nat.{◌+◌, ◌≤◌, ◌<◌}
use mathlib.Core.Path.{◌≡◌, sym, ap, ◌∙◌}
use native.Mathlib.Omega.{arith}
use lib.ListN.{length, length-set}
use Rattle.outbox.specs.Format.{format_for, head_size}
use Rattle.outbox.specs.Reader.{given, found, read_of}
use Rattle.outbox_move.specs.Moves.{record_only, told_next}
use Rattle.outbox_move.proofs.Passing.{writing_begins, writing-ends, writing-goes, record-room, payload-short, payload-size, ends, spans}
use Rattle.outbox_move.proofs.passes.write_records.Goals.{In-Some}
use Rattle.outbox_move.proofs.passes.write_records.Goals as goal

pub loop-found-init : goal.loop-found-init
loop-found-init c =
    let file = c.args.file.now in
    writing_begins (format_for c.args.wished) (format_for c.args.own) file _ c.requires.0 (rw length-set c.requires.1)

-- the record of this turn
stood : (k : In-Some)
    →
    record_only (read_of (format_for k.args.own) k.args.file.now k.loop-found.place) ≡ given (found k.in-Some.found)
stood k = sym k.record_at.ensures ∙ ap told_next k.in-Some.is

lies : (k : In-Some)
    →
    (k.in-Some.found.start ≤ k.in-Some.found.next) × (k.loop-found.place < k.in-Some.found.next) × (k.in-Some.found.next ≤ length k.args.file.now)
lies k =
    let file = k.args.file.now in
    let within = ends (format_for k.args.own) file k.loop-found.place k.in-Some.found (stood k) in
    (omega (arith, spans (format_for k.args.own) file k.loop-found.place k.in-Some.found (stood k)), within.0, within.1)

pub slice_bounds-put_record-count : goal.slice_bounds-put_record-count
slice_bounds-put_record-count c = (lies (goal.at.slice_bounds-put_record-count c).In-Some).0

pub slice_bounds-put_record-start : goal.slice_bounds-put_record-start
slice_bounds-put_record-start c = (lies (goal.at.slice_bounds-put_record-start c).In-Some).0

pub slice_bounds-put_record-end : goal.slice_bounds-put_record-end
slice_bounds-put_record-end c = (lies (goal.at.slice_bounds-put_record-end c).In-Some).2

pub put_record-requires : goal.put_record-requires
put_record-requires c =
    let file = c.args.file.now in
    let k = (goal.at.put_record-requires c).In-Some in (
      record-room (format_for c.args.wished) (format_for c.args.own) file _ c.loop-found.invariant c.in-Some.found (stood k),
      payload-short (format_for c.args.wished) (format_for c.args.own) file _ c.loop-found.invariant c.in-Some.found (stood k),
    )

-- where the next record goes
fits : (k : In-Some)
    →
    k.loop-found.at + head_size (format_for k.args.wished) + k.in-Some.found.size ≤ length k.args.out.now
fits k =
    let file = k.args.file.now in
    omega (
      arith,
      k.loop-found.invariant.long,
      length-set k.args.out.now 0 k.byte.result,
      record-room (format_for k.args.wished) (format_for k.args.own) file _ k.loop-found.invariant k.in-Some.found (stood k),
      payload-size (format_for k.args.wished) (format_for k.args.own) file _ k.loop-found.invariant k.in-Some.found (stood k),
    )

pub overflow_add-at : goal.overflow_add-at
overflow_add-at c = omega (arith, c.head_size.ensures, fits (goal.at.overflow_add-at c).In-Some)

pub overflow_add-at-in-Some : goal.overflow_add-at-in-Some
overflow_add-at-in-Some c = omega (arith, c.head_size.ensures, fits (goal.at.overflow_add-at-in-Some c).In-Some)

pub loop-found-smaller : goal.loop-found-smaller
loop-found-smaller c = let within = lies (goal.at.loop-found-smaller c).In-Some in omega (arith, within.1, within.2)

pub loop-found-preserved : goal.loop-found-preserved
loop-found-preserved c =
    let file = c.args.file.now in
    rw (c.put_record.ensures, c.head_size.ensures) (writing-goes (format_for c.args.wished) (format_for c.args.own) file _ c.loop-found.invariant c.in-Some.found (stood (goal.at.loop-found-preserved c).In-Some))

pub shape_of-out : goal.shape_of-out
shape_of-out c =
    c.loop-found.invariant.long ∙ length-set c.args.out.now 0 c.byte.result

pub returns : goal.returns
returns c =
    let file = c.args.file.now in
    rw c.byte.ensures at
    (writing-ends (format_for c.args.wished) (format_for c.args.own) file _ c.loop-found.invariant (sym c.record_at.ensures ∙ ap told_next c.in_default.is))
