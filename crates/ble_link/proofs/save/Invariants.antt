use Rattle.std.proofs.Common.{◌≡◌}
use Rattle.ble_link.specs.Row.{stored_up_to}
use Rattle.ble_link.proofs.save.Given as goal

abbrev pub invariant-loop-i : goal.invariant-loop-i
invariant-loop-i l = l.row ≡ stored_up_to l.i l.slots l.initial.row
