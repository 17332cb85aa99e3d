use Rattle.proto_writer.proofs.Runs.{put-end, nested-last}
use Rattle.proto_writer.proofs.Messages.{member-fits}
use Rattle.msg_control.proofs.response.put_response_payload.Goals as goal

pub put_part-requires : goal.put_part-requires
put_part-requires c =
    let q = rw c.in-Some.is at c.requires in
    (member-fits _ q.0, rw (nested-last c.in-Some.field c.args.body.now) q.1)

pub returns-in-None : goal.returns-in-None
returns-in-None c = rw c.in-None.is (put-end c.args.out.now c.args.at)

pub returns-in-Some : goal.returns-in-Some
returns-in-Some c =
    rw (c.in-Some.is, ← nested-last c.in-Some.field c.args.body.now) c.put_part.ensures
