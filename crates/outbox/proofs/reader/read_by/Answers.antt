-- 40, 15 and the end by their tests; then what was judged at the place is what the definition reads there.
use Prim.Native.Nat.{◌+◌, ◌≤◌}
use mathlib.Core.Path.{◌≡◌, sym, ap, ◌∙◌}
use native.Mathlib.Omega.{arith}
use lib.ListN.{length, drop}
use borrow.Author.Tests.{eq-eqb}
use Rattle.outbox.specs.Format.{format_for, head_size}
use Rattle.outbox.specs.Reader.{record_at, read_of, told_judged}
use Rattle.wire.proofs.Parts.{rest-lent}
use Rattle.outbox.proofs.Place.{place-within, read-inside, found_within}
use Rattle.outbox.proofs.reader.read_by.Goals.{After-judge, In-Ok, Else-place-file}
use Rattle.outbox.proofs.reader.read_by.Goals as goal

pub returns-then-is_other : goal.returns-then-is_other
unfolding read_of
returns-then-is_other c = rw (c.version.ensures, sym c.is_other.ensures ∙ c.if-is_other.true)

pub returns-then-bad_place : goal.returns-then-bad_place
unfolding read_of
returns-then-bad_place c =
    rw (
      sym c.is_other.ensures ∙ c.if-is_other.false,
      sym c.bad_place.ensures ∙ c.if-bad_place.true,
    )

pub returns-then-place-file : goal.returns-then-place-file
unfolding read_of
returns-then-place-file c =
    rw (
      sym c.is_other.ensures ∙ c.if-is_other.false,
      sym c.bad_place.ensures ∙ c.if-bad_place.false,
      eq-eqb _ _ c.if-place-file.true,
    )

pub slice_bounds-judge-count : goal.slice_bounds-judge-count
slice_bounds-judge-count c = (place-within c.args.file.now _ (sym c.bad_place.ensures ∙ c.if-bad_place.false)).1

pub slice_bounds-judge-start : goal.slice_bounds-judge-start
slice_bounds-judge-start c = slice_bounds-judge-count c

read-there : (c : Else-place-file)
    →
    read_of (format_for c.args.version) c.args.file.now c.args.place ≡ record_at (format_for c.args.version) c.args.place (drop c.args.place c.args.file.now)
read-there c =
    read-inside
    (format_for c.args.version)
    c.args.file.now
    c.args.place
    (sym c.is_other.ensures ∙ c.if-is_other.false)
    (sym c.bad_place.ensures ∙ c.if-bad_place.false)
    c.if-place-file.false

-- what was judged is what stands there
judged : (c : After-judge)
    →
    told_judged (format_for c.args.version) c.args.place c.judge.result ≡ record_at (format_for c.args.version) c.args.place (drop c.args.place c.args.file.now)
judged c =
    c.judge.ensures c.args.place ∙ ap (record_at (format_for c.args.version) c.args.place) (rest-lent c.args.file.now c.args.place)

-- a record ends within the file
within : (c : In-Ok)
    →
    c.args.place + head_size (format_for c.args.version) + c.in-Ok.judged.size ≤ length c.args.file.now
within c =
    let place = c.args.place in
    let there = c.judge.ensures place ∙ ap (record_at (format_for c.args.version) place) (rest-lent c.args.file.now place) in
    let right = (place-within c.args.file.now _ (sym c.bad_place.ensures ∙ c.if-bad_place.false)).1 in
    (found_within (format_for c.args.version) c.args.file.now place _ right (sym there ∙ ap (told_judged (format_for c.args.version) place) c.in-Ok.is)).1

pub overflow_add-start : goal.overflow_add-start
overflow_add-start c = omega (arith, c.head_size.ensures, within (goal.at.overflow_add-start c).In-Ok)

pub overflow_add-next : goal.overflow_add-next
overflow_add-next c = omega (arith, c.head_size.ensures, within (goal.at.overflow_add-next c).In-Ok)

pub returns-in-Ok : goal.returns-in-Ok
returns-in-Ok c =
    let told = told_judged (format_for c.args.version) c.args.place in
    rw c.head_size.ensures
    (sym (ap told c.in-Ok.is) ∙ judged (goal.at.returns-in-Ok c).After-judge ∙ sym (read-there (goal.at.returns-in-Ok c).Else-place-file))

pub returns-in-Err : goal.returns-in-Err
returns-in-Err c =
    let told = told_judged (format_for c.args.version) c.args.place in
    sym (ap told c.in-Err.is) ∙ judged (goal.at.returns-in-Err c).After-judge ∙ sym (read-there (goal.at.returns-in-Err c).Else-place-file)
