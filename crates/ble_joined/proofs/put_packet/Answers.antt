use native.Mathlib.Omega.{arith}
use mathlib.Core.Path.{refl, ap, ◌∙◌}
use lib.ListN.{length}
use borrow.Rule.Slice.PartMut.{put_mid}
use Prim.Native.Nat.{◌-◌}
use Rattle.wire.proofs.Parts.{sets-part}
use Rattle.ble_sender.specs.Writer.{header_bytes}
use Rattle.ble_sender.proofs.Packets.{header-length}
use Rattle.ble_joined.proofs.Joining.{placed}
use Rattle.ble_joined.proofs.put_packet.Goals as goal

pub returns : goal.returns
returns c =
    let f = c.requires in
    let header = header_bytes c.args.how c.args.total c.args.piece c.args.last in
    let l = header-length c.args.how c.args.total c.args.piece c.args.last in
    let k = length c.args.out.now - c.args.at in
    placed c.args.how c.args.total c.args.piece c.args.last c.args.out.now _ _ c.args.at c.args.from _ _ f
    c.put_header-header.ensures.1
    (ap (put_mid c.args.at k c.args.out.now) c.put_header-header.ensures.0 ∙ sets-part c.args.out.now c.args.at k 0 header (omega (arith, f.earlier, f.within)) (omega (arith, l, f.earlier, f.within)))
    c.move_down.ensures
    refl
