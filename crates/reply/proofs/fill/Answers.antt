-- The message is its front and body; past the test of room the packets over it are `joined_of`.
use Prim.Native.Nat.{ℕ, ◌+◌, ◌-◌, ◌≤◌}
use native.Mathlib.Omega.{arith}
use mathlib.Core.Path.{◌≡◌, sym, ap, ◌∙◌}
use mathlib.Core.List.{List, ◌++◌}
use lib.ListN.{length, length-append, length-take, length-drop}
use lib.Seq.{sets}
use borrow.Rule.Slice.PartMut.{put_mid}
use Rattle.wire.specs.Told.{given, written}
use Rattle.ble_sender.specs.Piece.{pieces_of}
use Rattle.ble_joined.specs.Joined.{joined_of, sizes}
use Rattle.ble_joined.proofs.Pieces.{joined-long}
use Rattle.ble_joined.proofs.Guards.{joined_length_lem}
use Rattle.reply_parts.specs.Front.{front_bytes}
use Rattle.reply_parts.specs.Body.{body_lent}
use Rattle.reply.specs.Reply.{sending_of, Replied, sent}
use Rattle.reply.proofs.Puts.{over_first, no_output, is-joined}
use Rattle.reply.proofs.fill.Goals as goal

pub front_len-requires : goal.front_len-requires
front_len-requires c = c.requires.1.fits

pub overflow_add-total : goal.overflow_add-total
overflow_add-total c = omega (arith, c.requires.1.low-total, c.front_len.ensures.0)

pub returns-then-out-joined : goal.returns-then-out-joined
returns-then-out-joined c =
    let l = c.args.link in
    let o = c.args.out.now in
    let body = body_lent c.args.own c.args.kind in
    let m = front_bytes c.args.front ++ body in
    let total : length m ≡ c.front_len.result + c.args.front.body =
    length-append (front_bytes c.args.front) body ∙ omega (arith, c.front_len.ensures.0, c.requires.1.long) in
    let j : List ℕ = joined_of (sending_of l) m in
    let counted = joined_length_lem l.room (c.front_len.result + c.args.front.body) c.requires.1.room (omega (arith, c.requires.1.low-total, c.front_len.ensures.0)) in
    let long : length j ≡ c.joined_len-joined.result =
    joined-long (sending_of l) m c.requires.1.room ∙ ap (λ (n : ℕ). sizes (pieces_of l.room n)) total ∙ sym (c.joined_len-joined.ensures ∙ counted) in
    no_output (sending_of l) m o (omega (arith, long, c.if-out-joined.true))

pub put_reply-requires : goal.put_reply-requires
put_reply-requires c =
    let head = c.front_len.ensures.0 in
    let counted = joined_length_lem c.args.link.room (c.front_len.result + c.args.front.body) c.requires.1.room (omega (arith, c.requires.1.low-total, head)) in (
      c.requires.0,
      record {
        fits = c.requires.1.fits;
        long-body = c.requires.1.long;
        long-total = omega (arith, head);
        low-stream = omega arith;
        low-id = c.requires.1.low-id;
        low-total = omega (arith, head, c.requires.1.low-total);
        room = c.requires.1.room;
        long = simp (length-take, length-drop) (omega (arith, c.joined_len-joined.ensures, counted, c.if-out-joined.false));
      },
    )

pub returns : goal.returns
returns c =
    let l = c.args.link in
    let o = c.args.out.now in
    let body = body_lent c.args.own c.args.kind in
    let m = front_bytes c.args.front ++ body in
    let total : length m ≡ c.front_len.result + c.args.front.body =
    length-append (front_bytes c.args.front) body ∙ omega (arith, c.front_len.ensures.0, c.requires.1.long) in
    let j : List ℕ = joined_of (sending_of l) m in
    let counted = joined_length_lem l.room (c.front_len.result + c.args.front.body) c.requires.1.room (omega (arith, c.requires.1.low-total, c.front_len.ensures.0)) in
    let long : length j ≡ c.joined_len-joined.result =
    joined-long (sending_of l) m c.requires.1.room ∙ ap (λ (n : ℕ). sizes (pieces_of l.room n)) total ∙ sym (c.joined_len-joined.ensures ∙ counted) in
    let space : length j ≤ length o = omega (arith, long, c.if-out-joined.false) in
    let k = c.joined_len-joined.result in
    let e =
    ap (put_mid 0 (k - 0) o) c.put_reply.ensures ∙ over_first o j (k - 0) (omega (arith, long)) (omega (arith, long, space)) in
    ap (λ (x : List ℕ). written {A = Replied} (given (sent k)) x) e
    ∙ ap (λ (n : ℕ). written (given (sent n)) (sets o 0 j)) (sym long)
    ∙ is-joined (sending_of l) m o space
