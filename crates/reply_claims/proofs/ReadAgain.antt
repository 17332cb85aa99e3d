-- The reply, read again.
use Prim.Native.Nat.{ℕ, ◌+◌, ◌≤◌, ◌%◌, ◌^◌}
use native.Mathlib.Omega.{arith}
use mathlib.Core.Path.{◌≡◌, refl, ap, sym, subst}
use mathlib.Core.List.{List, [], ◌∷◌, ◌++◌}
use mathlib.Core.Bool.{Bool, true, false, false≢true, ◌||◌}
use lib.IntN.{ℤ, pos, negsuc}
use lib.ListN.{length, get_or, length-append}
use lib.Dec.{ltb}
use mir.Syntax.{w32}
use mir.Val.{SFits}
use mir.ValLaws.{to_z-Fits}
use borrow.Author.Tests.{ltb-false}
use Rattle.proto_field.specs.Signed.{signed_of, extended}
use Rattle.proto_field.proofs.Told.{sat-any, sat-then, sat-given}
use Rattle.proto_writer.specs.Writer.{scalar, nested, head_bytes, part_bytes, field_bytes, message_bytes}
use Rattle.proto_schema.specs.declared.Schema.TheVariants as Schema
use Rattle.proto_schema.specs.Schema.{response_field, first}
use Rattle.proto_reader.specs.declared.gathered.Gathered.{Gathered}
use Rattle.proto_reader.specs.Refusal.{numbered}
use Rattle.proto_reader.specs.Walk.{fields_from}
use Rattle.std.specs.Prelude.{Option, Some, None}
use Rattle.msg_control.specs.declared.envelope.EnvelopePayload.TheVariants as Sent
use Rattle.msg_control.specs.Response.{bad_response_payload}
use Rattle.msg_control.specs.declared.envelope.Envelope.{Envelope}
use Rattle.msg_control.specs.declared.envelope.Payload.{Payload}
use Rattle.msg_control.specs.Envelope.{payload_of, envelope_of, envelope_fields}
use Rattle.msg_device.specs.Information.{information_fields}
use Rattle.msg_device.specs.Features.{features_of, features_fields}
use Rattle.wire.specs.Told.{given}
use Rattle.wire.proofs.Limits.{limit-range}
use Rattle.msg_claims.specs.RoundTrip.{inner_bytes, information_again}
use Rattle.msg_claims.specs.Premises.{InSigned32}
use Rattle.msg_claims.proofs.Values.{whole}
use Rattle.msg_claims.proofs.Premises.{signed, all-signed}
use Rattle.msg_claims.proofs.RoundTrip.{features-read, information-read, envelope-read}
use Rattle.reply_parts.specs.declared.body.CommandKind.{CommandKind}
use Rattle.reply_parts.specs.declared.body.CommandKind.TheVariants.{Other}
use Rattle.reply_parts.specs.Body.{kind_of_command}
use Rattle.proto_writer.specs.Message.{bad_member}
use Rattle.reply.specs.declared.Link.{Link}
use Rattle.reply.specs.Reply.{Box, body_of, reply_by, reply_of}
use Rattle.reply_claims.specs.Answers.{Answers}
use Rattle.reply_claims.specs.ReadAgain.{ResponseReads, BareReads, ReplyReads}
use Rattle.reply_claims.proofs.Premises.{other-kind}

-- a member's bytes are no longer than the message
part_length : (field : ℕ) (l : List ℕ) → length l ≤ length (part_bytes field l)
unfolding part_bytes
part_length field l = omega (arith, length-append (head_bytes field (length l)) l)

inside : (v field : ℕ) (l : List ℕ) → length l ≤ length (message_bytes (scalar 1 v ∷ nested field l ∷ []))
unfolding field_bytes
inside v field l =
    omega (
      arith,
      part_length field l,
      length-append (field_bytes (scalar 1 v)) (part_bytes field l ++ []),
      length-append (part_bytes field l) [],
    )

module _ (c code : ℤ) (payload : Option ℕ) (body : List ℕ) where
  abbrev bytes : List ℕ
  bytes = message_bytes (envelope_fields (extended c) (Sent.Response code payload) body)

  read : (P : List ℕ → Type 0) → InSigned32 c → InSigned32 code → bad_response_payload payload ≡ false → length bytes ≤ 65535
      → P (inner_bytes payload body) → ResponseReads bytes c code payload P
  read P z e fine short holds =
      record {
        body = inner_bytes payload body;
        envelope = envelope-read c (Sent.Response code payload) body bytes (signed c z) (signed code e) fine (omega arith) (whole bytes);
        holds = holds;
      }

body-short : (v code field : ℕ) (body : List ℕ) → length (message_bytes (scalar 1 v ∷ nested response_field (message_bytes (scalar 1 code ∷ nested field body ∷ [])) ∷ [])) ≤ 65535
    → length body ≤ 65535
body-short v code field body h = omega (arith, inside v response_field (message_bytes (scalar 1 code ∷ nested field body ∷ [])), inside code field body)

-- a command that was read is a signed number of 32 bits
fits_in : (z : ℤ) → SFits w32 z → InSigned32 z
fits_in (pos n) f = omega (arith, f.sfits)
fits_in (negsuc n) f = omega (arith, f.sfits)

command-fits : (message : List ℕ) (e : Envelope) → envelope_of message ≡ given e → InSigned32 e.command
unfolding envelope_of
command-fits message e reads =
    let gathered = numbered (fields_from Schema.Envelope message 0) in
    sat-given Fits (envelope_of message) e
    (sat-then (λ (g : Gathered). Unit {0}) Fits gathered _ (sat-any gathered)
    (λ g none. sat-then (λ (p : Payload). Unit {0}) Fits (payload_of message g) _ (sat-any (payload_of message g))
    (λ p none. let v = get_or g.scalars first 0 in fits_in (signed_of v) (to_z-Fits w32 (v % 2 ^ 32) (record { fits = omega arith })))))
    reads
  where
    Fits : Envelope → Type 0
    Fits x = InSigned32 x.command

-- no other number has the varint's value of one of the four
other-command : (c : ℤ) → InSigned32 c → (c ≡ pos 20 → ⊥) → (c ≡ pos 28 → ⊥) → (c ≡ pos 94 → ⊥) → (c ≡ pos 95 → ⊥) → kind_of_command (extended c) ≡ Other
other-command (pos n) z n20 n28 n94 n95 = other-kind n (λ e. n20 (ap pos e)) (λ e. n28 (ap pos e)) (λ e. n94 (ap pos e)) (λ e. n95 (ap pos e))
other-command (negsuc n) z n20 n28 n94 n95 = other-kind (extended (negsuc n)) (λ e. omega arith) (λ e. omega arith) (λ e. omega arith) (λ e. omega arith)

abbrev OtherReads : Box → ℤ → CommandKind → Type 0
OtherReads b c kind =
    length (reply_by (extended c) kind b.members (body_of b kind)) ≤ 65535 → BareReads (reply_by (extended c) kind b.members (body_of b kind)) c (pos 3)

other-reads : (b : Box) (c : ℤ) → InSigned32 c → OtherReads b c Other
unfolding reply_by
other-reads b c z short = read c (pos 3) None [] (λ body. body ≡ []) z (omega arith) refl short refl

-- a reply that is within the limit is no longer than any message
short : (b : Box) (l : Link) (message : List ℕ) (c : ℤ) (out : List ℕ) → Answers b l message c out → length (reply_of b (extended c)) ≤ 65535
short b l message c out a = omega (arith, a.within, (limit-range l.limit a.limit).1)

-- what the information carries
carries : (b : Box) → (bad_member b.members.information || ltb 8 (length b.transports)) ≡ false
    → (bad_member b.members.information ≡ false) × (length b.transports ≤ 8)
carries b e =
    let each = neither (bad_member b.members.information) (ltb 8 (length b.transports)) e in
    (each.0, ltb-false 8 (length b.transports) each.1)
  where
    neither : (x y : Bool) → (x || y) ≡ false → (x ≡ false) × (y ≡ false)
    neither true y e = absurd (false≢true (sym e))
    neither false y e = (refl, e)

pub reply-reads : ReplyReads
unfolding kind_of_command reply_by
reply-reads =
    record {
      information = λ b l message out a zs.
          let body : List ℕ = message_bytes (information_fields b.serial_number b.name b.transports b.device_type) in
          let small = short b l message (pos 20) out a in
          let k : length body ≤ 65535 = body-short 20 0 b.members.information body small in
          let fine = carries b a.carried in
          read (pos 20) (pos 0) (Some b.members.information) body
          (λ body. information_again body ≡ given (b.serial_number, b.name, b.transports, b.device_type))
          (omega arith) (omega arith) fine.0 small
          (information-read b.serial_number b.name b.transports b.device_type body a.strings (all-signed b.transports zs) fine.1 (omega arith) (whole body));
      features = λ b l message out a f d.
          let body : List ℕ = message_bytes (features_fields b.features) in
          read (pos 28) (pos 0) (Some b.members.features) body (λ body. features_of body ≡ given b.features)
          (omega arith) (omega arith) a.carried (short b l message (pos 28) out a)
          (features-read b.features body (omega arith) (omega arith) (whole body));
      segment = λ b l message out a. read (pos 94) (pos 0) None [] (λ body. body ≡ []) (omega arith) (omega arith) refl (short b l message (pos 94) out a) refl;
      apply = λ b l message out a. read (pos 95) (pos 0) None [] (λ body. body ≡ []) (omega arith) (omega arith) refl (short b l message (pos 95) out a) refl;
      other = λ b l message c out a n20 n28 n94 n95.
          let z = command-fits message (record { command = c; payload = a.payload }) a.reads in
          subst (OtherReads b c) (sym (other-command c z n20 n28 n94 n95)) (other-reads b c z) (short b l message c out a);
    }
