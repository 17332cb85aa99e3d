use mathlib.Core.Path.{ap, ◌∙◌}
use lib.ListN.{length}
use Rattle.proto_writer.proofs.Runs.{nested-last}
use Rattle.proto_writer.proofs.Messages.{member-fits}
use Rattle.msg_control.proofs.response.response_payload_len.Goals as goal

pub part_len-requires : goal.part_len-requires
part_len-requires c = member-fits _ (rw c.in-Some.is at c.requires)

pub returns-in-Some : goal.returns-in-Some
returns-in-Some c =
    let f = c.in-Some.field in
    rw c.in-Some.is (c.part_len.ensures.0 ∙ ap length (nested-last f c.args.body.now), c.part_len.ensures.1)
