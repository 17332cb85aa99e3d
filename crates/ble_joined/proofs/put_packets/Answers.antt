use Prim.Native.Nat.{◌-◌}
use native.Mathlib.Omega.{arith}
use mathlib.Core.Path.{refl, ◌∙◌}
use lib.ListN.{length}
use Rattle.ble_joined.specs.Joined.{message_in}
use Rattle.ble_joined.proofs.Pieces.{size_low}
use Rattle.ble_joined.proofs.Joining.{left-fits, packet-fits, further, up_to, joining-start, joining-next, message-length, going_on, finished}
use Rattle.ble_joined.proofs.put_packets.Goals as goal

pub loop-at-init : goal.loop-at-init
loop-at-init c = (refl, omega arith, joining-start c.args.how c.args.total c.args.out.now c.requires)

pub overflow_sub-rest : goal.overflow_sub-rest
overflow_sub-rest c = (going_on c.loop-at.invariant.2 c.loop-at-test.true).low

pub piece_size-size-requires : goal.piece_size-size-requires
piece_size-size-requires c = c.requires.room

pub overflow_sub-end : goal.overflow_sub-end
overflow_sub-end c =
    let g = going_on c.loop-at.invariant.2 c.loop-at-test.true in
    let o = c.args.out.now in
    omega (arith, left-fits c.args.how (message_in c.args.total o) c.args.total (length o) c.requires.room (message-length c.args.how c.args.total o c.requires) g)

pub put_packet-at-requires : goal.put_packet-at-requires
put_packet-at-requires c =
    let g = going_on c.loop-at.invariant.2 c.loop-at-test.true in
    let o = c.args.out.now in
    let n = c.piece_size-size.result in
    let f = packet-fits c.args.how (message_in c.args.total o) c.args.total (length o) c.requires.room (message-length c.args.how c.args.total o c.requires) c.loop-at.out c.loop-at.index c.loop-at.start c.loop-at.at n c.loop-at.invariant.0 g c.piece_size-size.ensures in
    let q = size_low c.args.how.room c.args.total c.loop-at.index c.loop-at.start n c.requires.room c.piece_size-size.ensures in
    record {
      low-stream = c.requires.low-stream;
      low-id = c.requires.low-id;
      low-total = c.requires.low-total;
      inside = omega (arith, q, g.low);
      earlier = omega (arith, f);
      within = omega (arith, f, q, c.loop-at.invariant.0);
    }

pub overflow_add-start : goal.overflow_add-start
overflow_add-start c =
    let g = going_on c.loop-at.invariant.2 c.loop-at-test.true in
    let q = size_low c.args.how.room c.args.total c.loop-at.index c.loop-at.start _ c.requires.room c.piece_size-size.ensures in
    omega (arith, q, g.low, c.requires.low-total)

pub overflow_add-index : goal.overflow_add-index
overflow_add-index c =
    let g = going_on c.loop-at.invariant.2 c.loop-at-test.true in
    omega (arith, g.few, g.low, c.requires.low-total)

pub loop-at-smaller : goal.loop-at-smaller
loop-at-smaller c =
    let t = c.loop-at-test.true in
    let g = going_on c.loop-at.invariant.2 t in
    let o = c.args.out.now in
    let n = c.piece_size-size.result in
    let f = further c.args.how (message_in c.args.total o) c.args.total (length o) c.requires.room (message-length c.args.how c.args.total o c.requires) c.loop-at.out c.loop-at.index c.loop-at.start c.loop-at.at n c.loop-at.invariant.0 g c.piece_size-size.ensures _ _ c.put_packet-at.ensures in
    omega (arith, f, t)

pub loop-at-preserved : goal.loop-at-preserved
loop-at-preserved c =
    let t = c.loop-at-test.true in
    let g = going_on c.loop-at.invariant.2 t in
    let o = c.args.out.now in
    let n = c.piece_size-size.result in
    let k = message-length c.args.how c.args.total o c.requires in
    let f = up_to c.args.how (message_in c.args.total o) c.args.total (length o) c.requires.room k c.loop-at.out c.loop-at.index c.loop-at.start c.loop-at.at n c.loop-at.invariant.0 g c.piece_size-size.ensures _ _ c.put_packet-at.ensures in
    let j = joining-next c.args.how (message_in c.args.total o) c.args.total (length o) c.requires.room k c.loop-at.out c.loop-at.index c.loop-at.start c.loop-at.at n c.loop-at.invariant.0 g c.piece_size-size.ensures _ _ c.put_packet-at.ensures in
    (c.put_packet-at.auto.out ∙ c.loop-at.invariant.0, f, j)

pub shape_of-out : goal.shape_of-out
shape_of-out c = c.loop-at.invariant.0

pub returns : goal.returns
returns c =
    finished c.loop-at.invariant.2 c.loop-at-test.false
