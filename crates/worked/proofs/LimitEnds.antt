-- The ends of a limit's range, computed.
use mathlib.Core.Path.{refl}
use Rattle.wire.specs.Limit.{limit_fits}
use Rattle.classic_extractor.specs.State as extractor
use Rattle.ble_slot.specs.Slot.{lawful_slot, lawful}
use Rattle.ble_receiver.specs.Receiver as receiver
use Rattle.worked.specs.LimitEnds.{LimitEnds}

pub limit-ends : LimitEnds
unfolding limit_fits extractor.lawful extractor.ready lawful_slot lawful receiver.ready
limit-ends = record { extractor = refl; receiver = refl }
