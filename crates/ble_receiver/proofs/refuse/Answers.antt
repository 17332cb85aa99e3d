use Rattle.wire.specs.Told.{refused}
use Rattle.ble_slot.specs.Answer.{number_of}
use Rattle.ble_receiver.proofs.Outcomes.{same_left}
use Rattle.ble_receiver.proofs.refuse.Goals as goal

pub returns : goal.returns
returns c = λ row bytes out e. same_left (refused (number_of c.args.why)) 0 row _ bytes out e
