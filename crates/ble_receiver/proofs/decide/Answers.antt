use mathlib.Core.Path.{sym, ◌∙◌}
use lib.Dec.{eqb}
use borrow.Author.Tests.{lt-ltb, le-ltb, not-true, not-false}
use Rattle.wire.specs.Told.{refused}
use Rattle.wire.proofs.Tests.{and_right}
use Rattle.ble_packet.specs.Reader.{read_of}
use Rattle.ble_slot.specs.Slot.{slot_count}
use Rattle.ble_receiver.specs.Receiver.{PacketCall, call}
use Rattle.ble_receiver.proofs.Outcomes.{first-same, unready, refused-one, told-by, step_row, fifteen, fourteen, read-there}
use Rattle.ble_receiver.proofs.decide.Goals.{Start}
use Rattle.ble_receiver.proofs.decide.Goals as goal

called : (c : Start) → PacketCall
called c = call c.args.packet.now c.args.sequence c.args.out.now

pub returns-then-not-is_ready : goal.returns-then-not-is_ready
unfolding called
returns-then-not-is_ready c =
    let no = sym c.is_ready.ensures ∙ not-true c.is_ready.result c.if-not-is_ready.true-raw in
    λ row n e.
    c.refuse.ensures row c.args.buffer.now c.args.out.now (first-same row c.args.slots e)
    ∙ sym (refused-one c.args.limit row c.args.buffer.now (called (goal.at.returns-then-not-is_ready c).Start) (unready c.args.limit c.args.count _ row c.args.slots n e no))

pub returns-then-sequence-ge-FOUR_BITS : goal.returns-then-sequence-ge-FOUR_BITS
unfolding called
returns-then-sequence-ge-FOUR_BITS c =
    let fit = sym c.is_ready.ensures ∙ not-false c.is_ready.result c.if-not-is_ready.false-raw in
    let why = fifteen c.args.limit (called (goal.at.returns-then-sequence-ge-FOUR_BITS c).Start) (le-ltb _ _ c.if-sequence-ge-FOUR_BITS.true) in
    λ row n e.
    c.refuse-then-sequence-ge-FOUR_BITS.ensures row c.args.buffer.now c.args.out.now (first-same row c.args.slots e)
    ∙ sym (told-by c.args.limit c.args.count row c.args.slots c.args.buffer.now (called (goal.at.returns-then-sequence-ge-FOUR_BITS c).Start) (refused 15) n e fit why)

pub returns-then-out-lt-ACK_SIZE : goal.returns-then-out-lt-ACK_SIZE
unfolding called
returns-then-out-lt-ACK_SIZE c =
    let fit = sym c.is_ready.ensures ∙ not-false c.is_ready.result c.if-not-is_ready.false-raw in
    let why = fourteen c.args.limit (called (goal.at.returns-then-out-lt-ACK_SIZE c).Start) (lt-ltb _ _ c.if-sequence-ge-FOUR_BITS.false) (lt-ltb _ _ c.if-out-lt-ACK_SIZE.true) in
    λ row n e.
    c.refuse-then-out-lt-ACK_SIZE.ensures row c.args.buffer.now c.args.out.now (first-same row c.args.slots e)
    ∙ sym (told-by c.args.limit c.args.count row c.args.slots c.args.buffer.now (called (goal.at.returns-then-out-lt-ACK_SIZE c).Start) (refused 14) n e fit why)

pub process-requires : goal.process-requires
process-requires c = (
  and_right (eqb c.args.count slot_count) _ (sym c.is_ready.ensures ∙ not-false c.is_ready.result c.if-not-is_ready.false-raw),
  c.if-sequence-ge-FOUR_BITS.false,
  c.if-out-lt-ACK_SIZE.false,
)

pub returns : goal.returns
unfolding called
returns c =
    let fit = sym c.is_ready.ensures ∙ not-false c.is_ready.result c.if-not-is_ready.false-raw in
    let there = read-there c.args.limit (called (goal.at.returns c).Start) (lt-ltb _ _ c.if-sequence-ge-FOUR_BITS.false) (le-ltb _ _ c.if-out-lt-ACK_SIZE.false) in
    λ row n e.
    step_row c.args.limit c.args.count row c.args.slots c.args.buffer.now _ _ (called (goal.at.returns c).Start) c.process.result (read_of c.args.limit c.args.packet.now) n e fit there
    c.process.ensures
