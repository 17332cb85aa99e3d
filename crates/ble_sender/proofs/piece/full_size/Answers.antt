use Rattle.ble_sender.proofs.Largest.{full-some}
use Rattle.ble_sender.proofs.piece.full_size.Goals as goal

pub returns : goal.returns
returns c =
    (c.size_for.ensures, rw c.size_for.ensures (full-some c.args.room c.args.first c.requires))
