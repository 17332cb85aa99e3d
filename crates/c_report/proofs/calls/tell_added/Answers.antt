use native.Mathlib.Omega.{arith}
use mathlib.Core.Path.{◌≡◌, sym, ◌∙◌}
use lib.Dec.{eqb}
use lib.ListN.{length}
use borrow.Author.Tests.{eqb-true, not-true, not-false}
use Rattle.wire.proofs.Tests.{and_left, and_right}
use Rattle.capture_reader.proofs.Placed.{number-at}
use Rattle.capture_tally.specs.Tally.{number_of}
use Rattle.c_report.specs.Calls.{told_rows}
use Rattle.c_report.proofs.calls.tell_added.Goals as goal

pub returns-then-not-fits : goal.returns-then-not-fits
unfolding told_rows
returns-then-not-fits c = rw (← c.both-fits.ensures, not-true c.both-fits.result c.if-not-fits.true-raw)

pub put_report-requires : goal.put_report-requires
put_report-requires c =
    let both = sym c.both-fits.ensures ∙ not-false c.both-fits.result c.if-not-fits.false-raw in
    let long : length c.args.report.now ≡ 21 = eqb-true (length c.args.report.now) 21 (and_left (eqb (length c.args.report.now) 21) _ both) in
    omega (arith, long)

pub put-requires : goal.put-requires
put-requires c =
    let both = sym c.both-fits.ensures ∙ not-false c.both-fits.result c.if-not-fits.false-raw in
    let long : length c.args.answer.now ≡ 1 = eqb-true (length c.args.answer.now) 1 (and_right (eqb (length c.args.report.now) 21) _ both) in
    omega (arith, long)

pub returns : goal.returns
unfolding told_rows
returns c =
    rw (
      ← c.both-fits.ensures,
      not-false c.both-fits.result c.if-not-fits.false-raw,
      c.put.ensures,
      c.put_report.ensures,
      c.number_of_result-number.ensures,
      number-at number_of c.args.done,
      c.place_row-place.ensures,
    )
