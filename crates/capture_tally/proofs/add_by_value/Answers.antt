-- 17, 1 and the capture's own refusals by their tests; then the pass over its packets.
use mathlib.Core.Path.{sym, ap, ◌∙◌}
use lib.ListN.{length}
use borrow.Author.Tests.{not-true, not-false}
use Rattle.capture_reader.specs.Capture.{soundness_told}
use Rattle.capture_tally.proofs.Taking.{limit-refused, lent-refused, taken_is, fresh-ready, unsound, sound}
use Rattle.capture_tally.proofs.add_by_value.Goals as goal

pub returns-then-not-limit_fits : goal.returns-then-not-limit_fits
returns-then-not-limit_fits c =
    rw (c.refuse.ensures, limit-refused c.args.limit c.args.count (length c.args.buffer.now) c.args.capture.now (sym c.limit_fits.ensures ∙ not-true c.limit_fits.result c.if-not-limit_fits.true-raw))

pub lent_fits-requires : goal.lent_fits-requires
lent_fits-requires c = sym c.limit_fits.ensures ∙ not-false c.limit_fits.result c.if-not-limit_fits.false-raw

pub returns-then-not-lent_fits : goal.returns-then-not-lent_fits
returns-then-not-lent_fits c =
    rw (
      c.refuse-then-not-lent_fits.ensures,
      lent-refused c.args.limit c.args.count (length c.args.buffer.now) c.args.capture.now (sym c.limit_fits.ensures ∙ not-false c.limit_fits.result c.if-not-limit_fits.false-raw)
          (sym c.lent_fits.ensures ∙ not-true c.lent_fits.result c.if-not-lent_fits.true-raw),
    )

pub pass-tally-requires : goal.pass-tally-requires
pass-tally-requires c = (
  sym c.check.ensures ∙ ap soundness_told c.in-Ok.is,
  fresh-ready c.args.limit c.args.count (length c.args.buffer.now) (sym c.limit_fits.ensures ∙ not-false c.limit_fits.result c.if-not-limit_fits.false-raw)
      (sym c.lent_fits.ensures ∙ not-false c.lent_fits.result c.if-not-lent_fits.false-raw),
)

pub returns-in-Err : goal.returns-in-Err
returns-in-Err c =
    let why = sym c.check.ensures ∙ ap soundness_told c.in-Err.is in
    rw (
      c.refuse-in-Err.ensures,
      taken_is c.args.limit c.args.count (length c.args.buffer.now) c.args.capture.now (sym c.limit_fits.ensures ∙ not-false c.limit_fits.result c.if-not-limit_fits.false-raw)
          (sym c.lent_fits.ensures ∙ not-false c.lent_fits.result c.if-not-lent_fits.false-raw),
      unsound c.args.capture.now _ why,
    )

pub returns-in-Ok : goal.returns-in-Ok
returns-in-Ok c =
    rw (
      c.answer_of.ensures,
      taken_is c.args.limit c.args.count (length c.args.buffer.now) c.args.capture.now (sym c.limit_fits.ensures ∙ not-false c.limit_fits.result c.if-not-limit_fits.false-raw)
          (sym c.lent_fits.ensures ∙ not-false c.lent_fits.result c.if-not-lent_fits.false-raw),
    )
    (sound c.args.report c.args.limit c.args.slots c.args.buffer.now c.args.capture.now _ c.pass-tally.ensures)
