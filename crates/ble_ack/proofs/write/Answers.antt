use Rattle.ble_packet.proofs.Headers.{in-range-low}
use Rattle.ble_packet.specs.Header.{in_range}
use Rattle.ble_ack.specs.Acknowledgement.{ack_of}
use borrow.Author.Tests.{lt-ltb, le-ltb, not-false}
use mathlib.Core.Bool.{true}
use mathlib.Core.Path.{◌≡◌, sym, ◌∙◌}
use native.Mathlib.Omega.{arith}
use Rattle.ble_ack.proofs.write.Goals as goal

pub returns-then-not-in_range : goal.returns-then-not-in_range
unfolding ack_of
returns-then-not-in_range c = rw (← c.in_range.ensures, c.if-not-in_range.true-raw)

pub returns-then-out-lt-ACK_SIZE : goal.returns-then-out-lt-ACK_SIZE
unfolding ack_of
returns-then-out-lt-ACK_SIZE c = rw (← c.in_range.ensures, c.if-not-in_range.false-raw, lt-ltb _ _ c.if-out-lt-ACK_SIZE.true)

pub put-requires : goal.put-requires
put-requires c =
    let e : in_range c.args.stream c.args.id c.args.sequence ≡ true = sym c.in_range.ensures ∙ not-false c.in_range.result c.if-not-in_range.false-raw in
    let low = in-range-low c.args.stream c.args.id c.args.sequence e in
    (omega arith, low.0, low.1, low.2)

pub returns : goal.returns
unfolding ack_of
returns c =
    rw (← c.in_range.ensures, c.if-not-in_range.false-raw, le-ltb _ _ c.if-out-lt-ACK_SIZE.false, c.put.ensures)
