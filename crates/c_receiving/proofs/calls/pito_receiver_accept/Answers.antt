use Rattle.std.proofs.Common.{ap, ◌∙◌}
use Rattle.ble_slot.specs.Answer.{told}
use Rattle.ble_receiver.specs.Receiver.{PacketLeft, left}
use Rattle.c_receiving.specs.Calls.{told_row}
use Rattle.c_receiving.proofs.Packets.{replied_by, told-left}
use Rattle.c_receiving.proofs.calls.pito_receiver_accept.Goals as goal

pub returns : goal.returns
returns c =
    let a = c.args in
    let d = c.accept-done in
    let e = rw (c.link_at-link.ensures, c.byte_or-low.ensures) at d.ensures in
    ap (replied_by (left (told d.result) d.new.row d.new.buffer d.new.out)) c.tell_packet.ensures
    ∙ (ap (λ (l : PacketLeft). replied_by l (told_row a.answer.now l.told)) e
    ∙ told-left a.state.now a.row.now a.buffer.now a.packet.now a.sequence a.out.now a.answer.now)
