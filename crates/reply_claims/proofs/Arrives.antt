-- The reply is written, and arrives.
use Prim.Native.Nat.{ℕ, ◌≤◌}
use native.Mathlib.Omega.{arith}
use mathlib.Core.Path.{◌≡◌, sym, ap, ◌∙◌}
use mathlib.Core.List.{List}
use lib.IntN.{ℤ}
use lib.ListN.{length, replicate, length-replicate}
use lib.Seq.{sets}
use borrow.Author.Tests.{le-leb, le-ltb}
use Rattle.wire.specs.Told.{given, WrittenOf, written}
use Rattle.wire.proofs.Stores.{first-bytes}
use Rattle.ble_sender.specs.declared.writer.Sending.{Sending}
use Rattle.ble_sender.specs.Writer.{arguments_fit}
use Rattle.ble_sender.proofs.Guard.{room-low}
use Rattle.ble_sender_claims.specs.Calls.{calls_of, SendableMessage}
use Rattle.ble_sender_claims.proofs.CallsGiveAll.{calls_are}
use Rattle.ble_claims.proofs.MessagesArrive.{messages-arrive}
use Rattle.proto_field.specs.Signed.{extended}
use Rattle.proto_strings.proofs.Texts.{well-faultless}
use Rattle.ble_joined.specs.Joined.{joined_of}
use Rattle.reply.specs.declared.Link.{Link}
use Rattle.reply_parts.specs.Body.{kind_of_command}
use Rattle.reply.specs.Reply.{Box, sending_of, reply_of, strings_of, Replied, sent, joined_in, carried_of, sent_of, replied_of}
use Rattle.reply_claims.specs.Cut.{cut_apart}
use Rattle.reply_claims.specs.Answers.{Answers, ReplyWritten, packets_cut, ReplyArrives}
use Rattle.reply_claims.proofs.CutApart.{joined-cut-apart}

module _ (b : Box) (l : Link) (message : List ℕ) (c : ℤ) (out : List ℕ) (a : Answers b l message c out) where
  abbrev w : Sending
  w = sending_of l

  abbrev reply : List ℕ
  reply = reply_of b (extended c)

  abbrev whole : WrittenOf (ℕ × List ℕ) Replied
  whole = written (given (sent (length (joined_of w reply)))) (sets out 0 (joined_of w reply))

  within : length reply ≤ l.limit
  within = let h = a.within in omega (arith, h)

  is-joined : joined_in w reply out ≡ whole
  unfolding joined_in
  is-joined = rw (le-ltb (length out) (length (joined_of w reply)) a.space)

  is_carried : carried_of b l (extended c) (kind_of_command (extended c)) out ≡ whole
  unfolding carried_of
  is_carried = rw (le-ltb l.limit (length reply) within, well-faultless (strings_of b (kind_of_command (extended c))) a.strings) is-joined

  is-sent : sent_of b l (extended c) out ≡ whole
  unfolding sent_of
  is-sent = rw (a.room, a.limit, a.range, a.carried) is_carried

  is-written : replied_of b l message out ≡ whole
  unfolding replied_of
  is-written = rw (a.reads, a.question) is-sent

  -- the calls of the writer, over some output, give the same packets
  takes : SendableMessage l.limit w reply (replicate l.room 0)
  unfolding arguments_fit
  takes =
      record {
        range = a.limit;
        room = a.room;
        arguments = simp (a.range, le-leb (length reply) l.limit within);
        space = rw (length-replicate {A = ℕ} l.room 0) (omega arith);
      }

  packets : packets_cut (replied_of b l message out) ≡ calls_of l.limit w reply (replicate l.room 0)
  packets =
      ap packets_cut is-written ∙ ap cut_apart (first-bytes out (joined_of w reply) a.space) ∙ joined-cut-apart w reply (room-low l.room a.room)
      ∙ sym (calls_are l.limit w reply (replicate l.room 0) takes)

pub reply-written : ReplyWritten
reply-written b l message c out a = is-written b l message c out a

pub reply-arrives : ReplyArrives
reply-arrives b l message c out slots bytes before first later after a law size begins rest can free =
    let e = packets b l message c out a in
    messages-arrive l.limit slots bytes before first later after (sending_of l) (reply_of b (extended c)) (replicate l.room 0) law size
    (takes b l message c out a) (rw e at begins) (rw e at rest) can free
