use mathlib.Core.Path.{sym, ◌∙◌}
use borrow.Author.Tests.{not-true, not-false}
use Rattle.ble_packet.proofs.Reading.{control-judged}
use Rattle.ble_packet.proofs.reader.read_control.Goals as goal

pub returns-then-not-exact : goal.returns-then-not-exact
returns-then-not-exact c limit =
    sym (
    control-judged limit c.args.packet.now c.args.s c.requires
    ∙ rw (sym c.is_acknowledgement-exact.ensures ∙ not-true _ c.if-not-exact.true-raw)
    )

pub returns-then-s : goal.returns-then-s
returns-then-s c limit =
    (sym
    (control-judged limit c.args.packet.now c.args.s c.requires
    ∙ rw (sym c.is_acknowledgement-exact.ensures ∙ not-false _ c.if-not-exact.false-raw, c.if-s.true)))

pub returns : goal.returns
returns c limit =
    (sym
    (control-judged limit c.args.packet.now c.args.s c.requires
    ∙ rw (sym c.is_acknowledgement-exact.ensures ∙ not-false _ c.if-not-exact.false-raw, c.if-s.false)))
