use lib.ListN.{length}
use Rattle.msg_firmware.specs.Information.{parts_from}
use Rattle.msg_firmware.proofs.Components.{ReadingComponents}
use Rattle.msg_firmware.proofs.information.components_from.Given as goal

abbrev pub invariant-loop-component : goal.invariant-loop-component
invariant-loop-component l = ReadingComponents l.message l.from l.at l.components l.count

abbrev pub decreases-loop-component : goal.decreases-loop-component
decreases-loop-component l = length (parts_from l.message l.at)
