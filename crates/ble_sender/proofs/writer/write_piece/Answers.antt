use native.Mathlib.Omega.{arith}
use lib.ListN.{length-take, length-drop}
use Rattle.ble_sender.proofs.Packets.{packet-stored}
use Rattle.ble_sender.proofs.writer.write_piece.Goals as goal

pub copy-requires : goal.copy-requires
copy-requires c = simp (length-take, length-drop) (omega arith)

pub returns : goal.returns
returns c =
    rw (c.sent_for.ensures, c.copy.ensures, c.put_header-header.ensures.0)
    (packet-stored c.args.how c.args.message.now c.args.piece c.requires.inside c.args.out.now _ c.put_header-header.ensures.1)
