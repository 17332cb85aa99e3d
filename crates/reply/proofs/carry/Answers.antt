-- Measured first; then the answer is 17, 14 or the reply filled in, by what was measured.
use native.Mathlib.Omega.{arith}
use Prim.Native.Nat.{ℕ}
use mathlib.Core.Path.{sym, ap, ◌∙◌}
use mathlib.Core.List.{List}
use lib.ListN.{length-append}
use Rattle.std.proofs.lemmas.Result.{err_from_is_err_and}
use Rattle.wire.proofs.Limits.{limit-range}
use Rattle.ble_packet.proofs.Headers.{in-range-low}
use Rattle.ble_sender.proofs.Guard.{room-low}
use Rattle.reply_parts.specs.Front.{front_bytes}
use Rattle.reply_parts.specs.Body.{body_lent}
use Rattle.reply.specs.Reply.{box_lent, sending_of, joined_in}
use Rattle.reply.proofs.Replies.{member-fine, few-by}
use Rattle.reply.proofs.Tables.{too_long, bad-text, carried}
use Rattle.reply.proofs.carry.Goals as goal

pub measure-requires : goal.measure-requires
measure-requires c = (
  (limit-range c.args.link.limit c.requires.limit).1,
  few-by c.args.own.members c.args.own.information.transports.now c.args.kind c.requires.carried,
  member-fine c.args.own.members _ c.args.kind c.requires.carried,
)

pub fill-requires : goal.fill-requires
fill-requires c =
    let w = rw c.in-Some.is at c.measure.ensures in
    let high = (limit-range c.args.link.limit c.requires.limit).1 in
    let body = body_lent c.args.own c.args.kind in
    let long = ap lib.ListN.length w.whole in
    let parts = length-append (front_bytes c.in-Some.front) body in (
      few-by c.args.own.members c.args.own.information.transports.now c.args.kind c.requires.carried,
      record {
        fits = w.fits;
        long = w.long;
        low-total = omega (arith, w.within, w.long, high, long, parts);
        room = room-low c.args.link.room c.requires.room;
        low-id = (in-range-low 0 c.args.link.id c.args.link.sequence c.requires.range).1;
      },
    )

pub returns-in_default : goal.returns-in_default
returns-in_default c =
    too_long (box_lent c.args.own) c.args.link c.args.value c.args.kind c.args.out.now (rw c.in_default.is at c.measure.ensures)

pub returns-in_err-fault_of : goal.returns-in_err-fault_of
returns-in_err-fault_of c =
    let w = rw c.in-Some.is at c.measure.ensures in
    let p = err_from_is_err_and c.from_residual.result c.from_residual.ensures.1 in
    rw (p.1, p.2)
    (bad-text (box_lent c.args.own) c.args.link c.args.value c.args.kind c.args.out.now w.within _ (sym c.in_err-fault_of.ensures))

pub returns : goal.returns
returns c =
    let w = rw c.in-Some.is at c.measure.ensures in
    c.fill.ensures
    ∙ ap (λ (m : List ℕ). joined_in (sending_of c.args.link) m c.args.out.now) w.whole
    ∙ carried (box_lent c.args.own) c.args.link c.args.value c.args.kind c.args.out.now w.within (sym c.in_ok-fault_of.ensures)
