use Rattle.reply.proofs.bad_carried.Goals as goal

pub returns-in-Information : goal.returns-in-Information
returns-in-Information c = rw (c.in-Information.is, c.either.ensures, c.bad_member.ensures)

pub returns-in-Features : goal.returns-in-Features
returns-in-Features c = rw c.in-Features.is c.bad_member-in-Features.ensures
