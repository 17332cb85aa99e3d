use Rattle.worked_calls.proofs.Firmware.{firmware-calls}
use Rattle.worked_calls.proofs.firmware_calls.Goals as goal

pub returns : goal.returns
returns c = firmware-calls
