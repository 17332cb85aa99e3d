use Rattle.std.proofs.Common.{rules}
use Rattle.ble_link.specs.Row.{saved_row}
use Rattle.ble_link.proofs.save.Goals as goal

pub returns : goal.returns
unfolding saved_row
returns c = search rules
