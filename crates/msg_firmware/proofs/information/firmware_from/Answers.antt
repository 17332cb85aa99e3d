use mathlib.Core.Path.{sym}
use Rattle.msg_firmware.proofs.Parts.{parts-most}
use Rattle.msg_firmware.proofs.information.firmware_from.Goals as goal

pub components_from-requires : goal.components_from-requires
components_from-requires c = parts-most _ _ _ (sym c.in_ok-gathered.ensures)
