use native.Mathlib.Omega.{arith}
use mathlib.Core.Path.{refl}
use Rattle.ble_sender.specs.Piece.{extended, is_first}
use Rattle.ble_sender.proofs.Packets.{header-some, length-by, header-stored}
use Rattle.ble_sender.proofs.writer.put_header.Goals as goal

pub put_start-requires : goal.put_start-requires
put_start-requires c =
    let f = c.requires.header-fits in
    let h = header-some (is_first c.args.piece.index) (extended c.args.piece.size) in
    (omega arith, c.requires.low-stream, c.requires.low-id)

pub put_length-requires : goal.put_length-requires
put_length-requires c =
    let l = length-by (is_first c.args.piece.index) c.args.piece.size (extended c.args.piece.size) refl in
    let e = c.length_place.ensures.0 in
    let k1 = c.put_total.auto.out in
    let k2 = c.put_start.auto.out in
    let f = c.requires.header-fits in
    (omega arith, omega (arith, c.requires.inside, c.requires.low-total))

pub returns : goal.returns
returns c = (
  rw (c.put_length.ensures, c.length_place.ensures.0, c.put_total.ensures, c.put_start.ensures)
      (header-stored c.args.how c.args.total c.args.piece c.args.last c.args.out.now),
  c.header_size.ensures.0,
  c.header_size.ensures.1,
)
