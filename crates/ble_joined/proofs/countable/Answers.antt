use Rattle.ble_joined.specs.Joined.{countable}
use Rattle.ble_joined.proofs.countable.Goals as goal

pub returns : goal.returns
unfolding countable
returns c = cc
