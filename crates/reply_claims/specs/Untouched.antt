-- Nothing is written: on the message's own refusal, for a response, and on any refusal.
use Rattle.std.specs.Prelude.{ℕ, ◌≡◌, List, [], ℤ}
use Rattle.wire.specs.Told.{given, refused, written}
use Rattle.msg_control.specs.declared.response.Response.{Response}
use Rattle.msg_control.specs.declared.envelope.Payload.TheVariants as Payload
use Rattle.msg_control.specs.Envelope.{envelope_of}
use Rattle.reply.specs.declared.Link.{Link}
use Rattle.reply.specs.Reply.{Box, silent, replied_of}

-- whatever the box, the link and the output are
pub record NothingWritten : Type 0 where
  -- the message's own refusal comes first of all
  pub own : (b : Box) (l : Link) (message out : List ℕ) (n : ℕ) → envelope_of message ≡ refused n → replied_of b l message out ≡ written (refused (n, [])) out
  -- a response gets no reply
  pub response : (b : Box) (l : Link) (message out : List ℕ) (c : ℤ) (r : Response)
      → envelope_of message ≡ given (record { command = c; payload = Payload.Response r })
      → replied_of b l message out ≡ written (given silent) out
  -- any refusal
  pub refusal : (b : Box) (l : Link) (message out : List ℕ) (why : ℕ × List ℕ)
      → (replied_of b l message out).told ≡ refused why
      → (replied_of b l message out).out ≡ out
