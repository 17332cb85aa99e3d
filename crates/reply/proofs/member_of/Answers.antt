use Rattle.reply.proofs.member_of.Goals as goal

pub returns-in-Information : goal.returns-in-Information
returns-in-Information c = rw c.in-Information.is

pub returns-in-Features : goal.returns-in-Features
returns-in-Features c = rw c.in-Features.is
