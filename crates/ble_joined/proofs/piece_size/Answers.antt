use mathlib.Core.Path.{sym}
use Rattle.ble_sender.specs.Piece.{is_first}
use Rattle.ble_sender.proofs.Largest.{size_is}
use Rattle.ble_joined.proofs.piece_size.Goals as goal

pub returns : goal.returns
returns c =
    rw (c.smaller.ensures.0, c.full_size-full.ensures.0) (sym (size_is c.args.room (is_first c.args.index) c.requires c.args.rest))
