-- The message stands at the output's end, front and body; the packets are then made over it from the beginning.
use Prim.Native.Nat.{◌-◌, ◌+◌}
use native.Mathlib.Omega.{arith}
use mathlib.Core.Path.{ap, ◌∙◌}
use lib.ListN.{length, length-take, length-drop}
use lib.Seq.{length-sets}
use borrow.Rule.Slice.PartMut.{put_mid}
use Rattle.wire.proofs.Parts.{sets-part}
use Rattle.reply_parts.specs.Front.{front_bytes}
use Rattle.reply_parts.specs.Body.{body_lent}
use Rattle.ble_joined.proofs.Pieces.{total-fits}
use Rattle.reply.proofs.Puts.{reply-joined}
use Rattle.reply.proofs.put_reply.Goals as goal

pub overflow_sub-start : goal.overflow_sub-start
overflow_sub-start c =
    omega (arith, c.requires.1.long, total-fits c.args.how.room c.args.total c.requires.1.room)

pub overflow_sub-middle : goal.overflow_sub-middle
overflow_sub-middle c =
    omega (arith, c.requires.1.long, c.requires.1.long-total, total-fits c.args.how.room c.args.total c.requires.1.room)

pub put_front-requires : goal.put_front-requires
put_front-requires c =
    (c.requires.1.fits, simp (length-take, length-drop) (omega (arith, c.requires.1.long, c.requires.1.long-total, total-fits c.args.how.room c.args.total c.requires.1.room)))

pub put_body-requires : goal.put_body-requires
put_body-requires c =
    let k = c.put_front.auto.out in
    (c.requires.0, simp (length-take, length-drop) (omega (arith, k, c.requires.1.long, c.requires.1.long-body, c.requires.1.long-total, total-fits c.args.how.room c.args.total c.requires.1.room)))

pub returns : goal.returns
returns c =
    let o = c.args.out.now in
    let t = total-fits c.args.how.room c.args.total c.requires.1.room in
    let front = front_bytes c.args.front in
    let body = body_lent c.args.own c.args.kind in
    let start = length o - c.args.total in
    let middle = length o - c.args.front.body in
    let e₁ = ap (put_mid start (length o - start) o) c.put_front.ensures.stored ∙ sets-part o start (length o - start) 0 front (omega (arith, c.requires.1.long, t)) (omega (arith, c.requires.1.long, t, c.requires.1.long-total)) in
    let l₁ = ap length e₁ ∙ length-sets o (start + 0) front in
    reply-joined c.args.front c.args.how o _ _ _ body c.args.total c.requires.1 e₁
    (ap (put_mid middle (length o - middle) _) c.put_body.ensures ∙ sets-part _ middle (length o - middle) 0 body (omega (arith, l₁, c.requires.1.long, c.requires.1.long-total, t)) (omega (arith, c.requires.1.long, c.requires.1.long-body, c.requires.1.long-total, t)))
    c.join.ensures
