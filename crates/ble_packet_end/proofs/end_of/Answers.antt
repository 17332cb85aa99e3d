use mathlib.Core.Path.{◌≡◌, ◌∙◌}
use lib.ListN.{get_or}
use Rattle.ble_packet.specs.Header.{type_bits}
use Rattle.ble_packet_end.proofs.Ends.{control-end, message-end}
use Rattle.ble_packet_end.proofs.end_of.Goals.{After-type_bits-kind}
use Rattle.ble_packet_end.proofs.end_of.Goals as goal

-- the type, as byte 1 says it
kind_at : (c : After-type_bits-kind) → c.type_bits-kind.result ≡ type_bits (get_or c.args.bytes.now 1 0)
kind_at c = rw c.byte_at-second.ensures at c.type_bits-kind.ensures

pub returns-then-kind-eq-TYPE_CONTROL : goal.returns-then-kind-eq-TYPE_CONTROL
returns-then-kind-eq-TYPE_CONTROL c = control-end c.args.bytes.now c.type_bits-kind.result (kind_at (goal.at.returns-then-kind-eq-TYPE_CONTROL c).After-type_bits-kind) c.if-kind-eq-TYPE_CONTROL.true

pub returns : goal.returns
returns c =
    c.said_length.ensures
    ∙ message-end c.args.bytes.now c.type_bits-kind.result (kind_at (goal.at.returns c).After-type_bits-kind) c.if-kind-eq-TYPE_CONTROL.false (rw c.byte_at-second.ensures at c.extender_bit.ensures)
