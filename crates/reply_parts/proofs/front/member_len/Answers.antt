use Rattle.proto_writer.proofs.Messages.{member-fits}
use Rattle.reply_parts.proofs.front.member_len.Goals as goal

pub head_len-requires : goal.head_len-requires
head_len-requires c = member-fits _ (rw c.in-Some.is at c.requires)

pub returns-in-Some : goal.returns-in-Some
returns-in-Some c = rw c.in-Some.is (c.head_len.ensures.0, c.head_len.ensures.1)
