use Rattle.check_messages.proofs.Sizes.{response-size}
use Rattle.check_messages.proofs.response_again.Goals as goal

pub show-requires : goal.show-requires
show-requires c = response-size c.write_response-wrote.result _ _ _ _ _ c.write_response-wrote.ensures
