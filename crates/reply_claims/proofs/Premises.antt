-- The premises from the other side: each question of the ranges is answered.
use Prim.Native.Nat.{ℕ, ◌≤◌}
use native.Mathlib.Omega.{arith}
use mathlib.Core.Path.{◌≡◌, refl}
use mathlib.Core.List.{List}
use mathlib.Core.Bool.{true, false}
use lib.IntN.{ℤ, pos}
use lib.ListN.{length}
use borrow.Author.Tests.{lt-ltb, le-leb, le-ltb, ne_eqb}
use Rattle.wire.specs.Stream.{is_stream}
use Rattle.wire.proofs.Limits.{range-limit}
use Rattle.proto_strings.specs.Texts.{AllWellFormed}
use Rattle.proto_field.specs.Tag.{last_field}
use Rattle.proto_field.specs.Signed.{extended}
use Rattle.proto_writer.specs.Message.{bad_member}
use Rattle.msg_control.specs.declared.response.Response.{Response}
use Rattle.msg_control.specs.declared.envelope.Payload.{Payload}
use Rattle.msg_control.specs.declared.envelope.Payload.TheVariants as Payload
use Rattle.ble_packet.specs.Header.{in_range}
use Rattle.ble_sender.specs.Writer.{room_fits}
use Rattle.reply.specs.declared.Link.{Link}
use Rattle.reply_parts.specs.declared.body.CommandKind.TheVariants.{Other}
use Rattle.reply_parts.specs.Body.{kind_of_command}
use Rattle.reply.specs.Reply.{Box, bad_carried, strings_of, is_response}
use Rattle.reply_claims.specs.Answers.{Answers, AskedInRange, AnswersAll}

room_fits_lem : (room : ℕ) → 20 ≤ room → room ≤ 512 → room_fits room ≡ true
unfolding room_fits
room_fits_lem room low high = rw (le-leb 20 room low, le-leb room 512 high)

in-range : (id sequence : ℕ) → id ≤ 15 → sequence ≤ 15 → in_range 0 id sequence ≡ true
unfolding in_range is_stream
in-range id sequence i s = rw (lt-ltb id 16 (omega arith), lt-ltb sequence 16 (omega arith))

no-response : (p : Payload) → ((r : Response) → p ≡ Payload.Response r → ⊥) → is_response p ≡ false
no-response Payload.None h = refl
no-response (Payload.Response r) h = absurd (h r refl)
no-response (Payload.Member field part) h = refl

answers_by : (b : Box) (l : Link) (message : List ℕ) (c : ℤ) (out : List ℕ) → AskedInRange b l message c out
    → bad_carried b.members (length b.transports) (kind_of_command (extended c)) ≡ false
    → AllWellFormed (strings_of b (kind_of_command (extended c)))
    → Answers b l message c out
answers_by b l message c out k carried strings =
    let h = k.reply-within in
    record {
      payload = k.payload;
      reads = k.reads;
      question = no-response k.payload k.question;
      room = room_fits_lem l.room k.room-low k.room-high;
      limit = range-limit l.limit k.limit-low k.limit-high;
      range = in-range l.id l.sequence k.id k.sequence;
      carried = carried;
      strings = strings;
      within = omega (arith, h);
      space = k.space;
    }

fine-member : (field : ℕ) → 2 ≤ field → field ≤ 536870911 → bad_member field ≡ false
fine-member field low high = rw (le-ltb field 2 low, le-ltb last_field field high)

pub other-kind : (v : ℕ) → (v ≡ 20 → ⊥) → (v ≡ 28 → ⊥) → (v ≡ 94 → ⊥) → (v ≡ 95 → ⊥) → kind_of_command v ≡ Other
unfolding kind_of_command
other-kind v n20 n28 n94 n95 = rw (ne_eqb v 20 n20, ne_eqb v 28 n28, ne_eqb v 94 n94, ne_eqb v 95 n95)

other-carried : (b : Box) (v : ℕ) → (v ≡ 20 → ⊥) → (v ≡ 28 → ⊥) → (v ≡ 94 → ⊥) → (v ≡ 95 → ⊥)
    → (bad_carried b.members (length b.transports) (kind_of_command v) ≡ false) × AllWellFormed (strings_of b (kind_of_command v))
other-carried b v n20 n28 n94 n95 = rw (other-kind v n20 n28 n94 n95) (refl, tt)

pub answers-all : AnswersAll
unfolding kind_of_command
answers-all =
    record {
      information = λ b l message out k low high few s n t.
          answers_by b l message (pos 20) out k (rw (fine-member b.members.information low high, le-ltb 8 (length b.transports) few)) (s, (n, (t, tt)));
      features = λ b l message out k low high. answers_by b l message (pos 28) out k (fine-member b.members.features low high) tt;
      segment = λ b l message out k. answers_by b l message (pos 94) out k refl tt;
      apply = λ b l message out k. answers_by b l message (pos 95) out k refl tt;
      other = λ b l message c out k n20 n28 n94 n95.
          let e = other-carried b (extended c) n20 n28 n94 n95 in answers_by b l message c out k e.0 e.1;
    }
