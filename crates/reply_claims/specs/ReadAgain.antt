-- The reply, read again: what a speaker finds in it, by the readers of its messages and not by the definition of the reply.
use Rattle.std.specs.Prelude.{ℕ, ◌≤◌, ◌≡◌, List, [], ℤ, pos}
use Rattle.wire.specs.Told.{given}
use Rattle.proto_field.specs.Signed.{extended}
use Rattle.std.specs.Prelude.{Option, Some, None}
use Rattle.msg_control.specs.declared.envelope.EnvelopePayload.TheVariants as Sent
use Rattle.msg_device.specs.Features.{features_of}
use Rattle.msg_claims.specs.RoundTrip.{envelope_again, information_again}
use Rattle.msg_claims.specs.Premises.{AllInSigned32}
use Rattle.reply.specs.declared.Link.{Link}
use Rattle.reply.specs.Reply.{Box, reply_of}
use Rattle.reply_claims.specs.Answers.{Answers}

-- bytes that are read as an envelope of this command with a response of this code and payload, whose bytes hold P
pub record ResponseReads (s : List ℕ) (command code : ℤ) (payload : Option ℕ) (P : List ℕ → Type 0) : Type 0 where
  pub body : List ℕ
  pub envelope : envelope_again s ≡ given (command, (Sent.Response code payload, body))
  pub holds : P body

-- a response without payload
abbrev pub BareReads : List ℕ → ℤ → ℤ → Type 0
BareReads s command code = ResponseReads s command code None (λ body. body ≡ [])

-- 20 with success and device information, 28 with success and features, 94 and 95 with a bare success, any other command with its own
-- number and code 3: of every question that is answered. What no parameter of the library holds is left out: a transport above 32 bits, and
-- features above 64.
pub record ReplyReads : Type 0 where
  pub information : (b : Box) (l : Link) (message out : List ℕ) → Answers b l message (pos 20) out → AllInSigned32 b.transports
      → ResponseReads (reply_of b 20) (pos 20) (pos 0) (Some b.members.information)
      (λ body. information_again body ≡ given (b.serial_number, b.name, b.transports, b.device_type))
  pub features : (b : Box) (l : Link) (message out : List ℕ) → Answers b l message (pos 28) out
      → b.features.features ≤ 18446744073709551615 → b.features.device_attributes ≤ 18446744073709551615
      → ResponseReads (reply_of b 28) (pos 28) (pos 0) (Some b.members.features) (λ body. features_of body ≡ given b.features)
  pub segment : (b : Box) (l : Link) (message out : List ℕ) → Answers b l message (pos 94) out → BareReads (reply_of b 94) (pos 94) (pos 0)
  pub apply : (b : Box) (l : Link) (message out : List ℕ) → Answers b l message (pos 95) out → BareReads (reply_of b 95) (pos 95) (pos 0)
  pub other : (b : Box) (l : Link) (message : List ℕ) (c : ℤ) (out : List ℕ) → Answers b l message c out
      → (c ≡ pos 20 → ⊥) → (c ≡ pos 28 → ⊥) → (c ≡ pos 94 → ⊥) → (c ≡ pos 95 → ⊥)
      → BareReads (reply_of b (extended c)) c (pos 3)
