use Rattle.capture_tally.specs.Tally.{told_sum}
use Rattle.capture_tally.proofs.Passing.{counted_is}
use Rattle.capture_tally.proofs.take.Goals as goal

pub returns : goal.returns
returns c =
    rw (c.count_packet-sum.ensures, c.with_slot-row.ensures)
    (counted_is (told_sum c.args.tally.sum) c.args.limit c.args.tally.slots c.args.buffer.now c.args.packet.now _ _ _ c.give-done.ensures)
