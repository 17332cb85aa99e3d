use Rattle.check_messages.proofs.Sizes.{envelope-size}
use Rattle.check_messages.proofs.envelope_again.Goals as goal

pub show-requires : goal.show-requires
show-requires c = envelope-size c.write_envelope-wrote.result _ _ _ _ _ c.write_envelope-wrote.ensures

pub show-requires-in-Response : goal.show-requires-in-Response
show-requires-in-Response c = envelope-size c.write_envelope-wrote-in-Response.result _ _ _ _ _ c.write_envelope-wrote-in-Response.ensures

pub show-requires-in-Member : goal.show-requires-in-Member
show-requires-in-Member c = envelope-size c.write_envelope-wrote-in-Member.result _ _ _ _ _ c.write_envelope-wrote-in-Member.ensures
