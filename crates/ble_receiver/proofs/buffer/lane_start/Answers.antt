use mathlib.Core.Path.{refl}
use native.Mathlib.Omega.{arith}
use Rattle.ble_receiver.proofs.buffer.lane_start.Goals as goal

pub returns-in-Control : goal.returns-in-Control
returns-in-Control c = (rw c.in-Control.is refl, omega arith)

pub returns-in-Ota : goal.returns-in-Ota
returns-in-Ota c = (rw c.in-Ota.is refl, omega arith)

pub returns-in-Alexa : goal.returns-in-Alexa
returns-in-Alexa c = (rw c.in-Alexa.is refl, omega arith)
