use Rattle.std.proofs.Common.{rules}
use Rattle.ble_receiver.specs.Outcome.{first_twelve}
use Rattle.ble_link.proofs.load.Goals as goal

pub returns : goal.returns
unfolding first_twelve
returns c = search rules
