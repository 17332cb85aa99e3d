use mathlib.Core.Path.{sym, ◌∙◌}
use borrow.Author.Tests.{eq-eqb, ne_eqb}
use Rattle.ble_packet.proofs.Reading.{next-judged}
use Rattle.ble_packet.proofs.reader.read_next.Goals as goal

pub returns-then-packet-start : goal.returns-then-packet-start
returns-then-packet-start c limit =
    sym
    (next-judged limit c.args.packet.now c.args.s c.args.last c.header_size-start.ensures.0 (rw c.length_place.ensures.0 at c.length_at-len.ensures.0) c.requires
    ∙ rw (ne_eqb _ _ c.if-packet-start.true))

pub returns-then-len-eq0 : goal.returns-then-len-eq0
returns-then-len-eq0 c limit =
    sym
    (next-judged limit c.args.packet.now c.args.s c.args.last c.header_size-start.ensures.0 (rw c.length_place.ensures.0 at c.length_at-len.ensures.0) c.requires
    ∙ rw (eq-eqb _ _ c.if-packet-start.false, eq-eqb _ _ c.if-len-eq0.true))

pub returns : goal.returns
returns c limit =
    (sym
    (next-judged limit c.args.packet.now c.args.s c.args.last c.header_size-start.ensures.0 (rw c.length_place.ensures.0 at c.length_at-len.ensures.0) c.requires
    ∙ rw (eq-eqb _ _ c.if-packet-start.false, ne_eqb _ _ c.if-len-eq0.false)))
