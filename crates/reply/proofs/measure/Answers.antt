-- What the body leaves of the limit, then what the front leaves of that: together the message's length, or 15.
use native.Mathlib.Omega.{arith}
use mathlib.Core.Path.{sym}
use lib.ListN.{length}
use Rattle.proto_writer.proofs.Messages.{room-short}
use Rattle.proto_writer.proofs.Rooms.{room-rest}
use Rattle.reply_parts.specs.declared.body.CommandKind.{CommandKind}
use Rattle.reply_parts.specs.declared.body.OwnBox.{OwnBox}
use Rattle.reply_parts.specs.Body.{body_lent}
use Rattle.reply_parts.proofs.Fronts.{Whole}
use Rattle.reply.specs.Reply.{member_of}
use Rattle.reply.proofs.Replies.{CountedReply, whole_by, body-within, counted}
use Rattle.reply.proofs.measure.Goals.{After-front_for-front}
use Rattle.reply.proofs.measure.Goals as goal

pub body_room-requires : goal.body_room-requires
body_room-requires c = c.requires.1

pub overflow_sub-body : goal.overflow_sub-body
overflow_sub-body c = omega (arith, (room-rest c.args.limit _ _ (sym c.in_ok-left.ensures)).0)

whole : (own : OwnBox) (k : CommandKind) → Whole (member_of own.members k) (body_lent own k)
whole own k =
    let i = own.information in
    whole_by i.serial_number.now i.name.now i.transports.now i.device_type.now own.features own.members k

-- the reply by what the body left of the limit, and the front for that
known : (c : After-front_for-front)
    →
    CountedReply c.args.value c.args.kind c.args.own.members (body_lent c.args.own c.args.kind) c.args.limit c.in_ok-left.left c.front_for-front.result
known c =
    counted c.args.value c.args.kind c.args.own.members (body_lent c.args.own c.args.kind) c.args.limit c.in_ok-left.left c.front_for-front.result (whole c.args.own c.args.kind) (sym c.in_ok-left.ensures) c.front_for-front.ensures

pub front_len-head-requires : goal.front_len-head-requires
front_len-head-requires c =
    record { member = rw c.front_for-front.ensures.member c.requires.2; body = omega (arith, c.requires.0, (known c).low) }

pub returns-in_err-left : goal.returns-in_err-left
returns-in_err-left c =
    let body = body_lent c.args.own c.args.kind in
    let short = room-short c.args.limit (length body) (sym c.in_err-left.ensures) in
    rw c.from_residual.ensures
    (omega (arith, short, body-within c.args.value c.args.kind c.args.own.members body (whole c.args.own c.args.kind)))

pub returns-then-left-head : goal.returns-then-left-head
returns-then-left-head c = let k = known (goal.at.returns-then-left-head c).After-front_for-front in omega (arith, k.under, k.total, c.front_len-head.ensures.0, c.if-left-head.true)

pub returns : goal.returns
returns c =
    let k = known (goal.at.returns c).After-front_for-front in
    record {
      fits = record { member = rw c.front_for-front.ensures.member c.requires.2; body = omega (arith, c.requires.0, k.low) };
      long = k.long;
      whole = k.whole;
      within = omega (arith, k.under, k.total, c.front_len-head.ensures.0, c.if-left-head.false);
    }
