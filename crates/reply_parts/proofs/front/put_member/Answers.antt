use mathlib.Core.Path.{refl}
use Rattle.proto_writer.proofs.Runs.{put-none}
use Rattle.proto_writer.proofs.Messages.{member-fits}
use Rattle.reply_parts.proofs.front.put_member.Goals as goal

pub put_head-requires : goal.put_head-requires
put_head-requires c =
    let q = rw c.in-Some.is at c.requires in
    (member-fits _ q.0, q.1)

pub returns-in-None : goal.returns-in-None
returns-in-None c = rw c.in-None.is (put-none c.args.out.now c.args.at refl)

pub returns-in-Some : goal.returns-in-Some
returns-in-Some c = rw c.in-Some.is c.put_head.ensures
