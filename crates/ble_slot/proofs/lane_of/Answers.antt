use Rattle.ble_slot.proofs.Lanes.{lane-four}
use native.Mathlib.Omega.{arith}
use mathlib.Core.Path.{sym}
use Rattle.ble_slot.proofs.lane_of.Goals as goal

pub returns-in-Control : goal.returns-in-Control
returns-in-Control c =
    rw c.in-Control.is (sym (lane-four 0 c.args.slots (omega (arith, c.well_formed.0.1.0.1))))

pub returns-in-Ota : goal.returns-in-Ota
returns-in-Ota c =
    rw c.in-Ota.is (sym (lane-four 4 c.args.slots (omega (arith, c.well_formed.0.1.0.1))))

pub returns-in-Alexa : goal.returns-in-Alexa
returns-in-Alexa c =
    rw c.in-Alexa.is (sym (lane-four 8 c.args.slots (omega (arith, c.well_formed.0.1.0.1))))
