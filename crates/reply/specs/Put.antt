-- What the code of the reply is held to, below its guard.
use Rattle.std.specs.Prelude.{ℕ, ◌+◌, ◌≤◌, ◌<◌, ◌≡◌, true, false, List, [], ◌++◌, ℤ, length, ⊤, Option, Some, None, Result, Ok, Err}
use Rattle.wire.specs.Limit.{limit_fits}
use Rattle.wire.specs.Told.{ToldMore, told_by, given, refused, table}
use Rattle.ble_packet.specs.Header.{four_bits, in_range}
use Rattle.ble_sender.specs.declared.writer.Sending.{Sending}
use Rattle.ble_sender.specs.Piece.{least_room, pieces_of}
use Rattle.ble_sender.specs.Writer.{room_fits}
use Rattle.ble_joined.specs.Joined.{sizes}
use Rattle.proto_field.specs.Signed.{extended}
use Rattle.proto_reader.specs.Refusal.{message_number}
use Rattle.reply_parts.specs.declared.body.CommandKind.{CommandKind}
use Rattle.reply_parts.specs.declared.body.Members.{Members}
use Rattle.reply_parts.specs.declared.front.ReplyFront.{ReplyFront}
use Rattle.reply.specs.declared.Link.{Link}
use Rattle.reply.specs.declared.Refusal.{Refusal}
use Rattle.reply.specs.declared.Refusal.TheVariants.{Message, Room, Limit, Argument, BadText, Output}
use Rattle.proto_strings.specs.Texts.{why_of_fault}
use Rattle.reply_parts.specs.Front.{front_bytes, FrontFits}
use Rattle.reply_parts.specs.Body.{code_of}
use Rattle.reply.specs.Reply.{member_of, reply_by, bad_carried, link_lines, Replied, silent, sent}

-- ---- the answers of the code

-- the number, and what goes with it
abbrev pub why_of : Refusal → ℕ × List ℕ
why_of (Message e) = (message_number e, [])
why_of Room = (13, [])
why_of Limit = (17, [])
why_of Argument = (15, [])
why_of (BadText fault) = why_of_fault fault
why_of Output = (14, [])

abbrev pub number_of : Refusal → ℕ
number_of why = (why_of why).0

-- the number of bytes of a reply
abbrev pub told_sent : Result ℕ Refusal → ToldMore Replied
told_sent (Ok n) = given (sent n)
told_sent (Err why) = refused (why_of why)

abbrev pub told : Result (Option ℕ) Refusal → ToldMore Replied
told (Ok None) = given silent
told (Ok (Some n)) = given (sent n)
told (Err why) = refused (why_of why)

-- ---- the table up to the reply

-- no line holds, or the first that does
abbrev pub verdict_of : Result ⊤ Refusal → ToldMore ⊤
verdict_of = told_by why_of

unfoldable pub judged_of : Link → Members → ℕ → CommandKind → ToldMore ⊤
judged_of l m count kind = table (link_lines l m count kind) (λ n. refused (n, [])) (given tt)

-- ---- the reply, counted

-- a front for a command of this value and kind, with a member of n bytes
pub record FrontFor (v : ℕ) (kind : CommandKind) (m : Members) (n : ℕ) (f : ReplyFront) : Type 0 where
  pub value : f.value ≡ v
  pub code : f.code ≡ extended (code_of kind)
  pub member : f.member ≡ member_of m kind
  pub body : f.body ≡ n

-- it and the member's bytes are the reply, which is within the limit
pub record ReplyWithin (f : ReplyFront) (body reply : List ℕ) (limit : ℕ) : Type 0 where
  pub fits : FrontFits f
  pub long : f.body ≡ length body
  pub whole : front_bytes f ++ body ≡ reply
  pub within : length reply ≤ limit

-- a reply whose member has these bytes is above the limit, or has this front
abbrev pub MeasuredAs : ℕ → CommandKind → Members → List ℕ → ℕ → Option ReplyFront → Type 0
MeasuredAs v kind m body limit None = limit < length (reply_by v kind m body)
MeasuredAs v kind m body limit (Some f) = ReplyWithin f body (reply_by v kind m body) limit

-- ---- the reply, written

-- the front and these bytes can be written over all of an output, and joined in it
pub record PutsReply (f : ReplyFront) (total : ℕ) (w : Sending) (body out : List ℕ) : Type 0 where
  pub fits : FrontFits f
  pub long-body : f.body ≡ length body
  pub long-total : total ≡ length (front_bytes f) + f.body
  pub low-stream : w.stream < four_bits
  pub low-id : w.id < four_bits
  pub low-total : total < 65536
  pub room : least_room ≤ w.room
  pub long : length out ≡ sizes (pieces_of w.room total)

-- a reply that is within the limit can be joined on this link
pub record Joinable (f : ReplyFront) (body : List ℕ) (l : Link) : Type 0 where
  pub fits : FrontFits f
  pub long : f.body ≡ length body
  pub low-total : length (front_bytes f) + f.body < 65536
  pub room : least_room ≤ l.room
  pub low-id : l.id < four_bits

-- no line of the table up to the reply holds
pub record Carries (kind : CommandKind) (m : Members) (transports : List ℤ) (l : Link) : Type 0 where
  pub room : room_fits l.room ≡ true
  pub limit : limit_fits l.limit ≡ true
  pub range : in_range 0 l.id l.sequence ≡ true
  pub carried : bad_carried m (length transports) kind ≡ false
