-- What is told of a packet that was given to the receiver.
use Rattle.std.specs.Prelude.{ℕ, Result}
use Rattle.wire.specs.Told.{Told, told_by}
use Rattle.ble_packet.specs.Reader as reader
use Rattle.ble_slot.specs.declared.answer.Accepted.{Accepted}
use Rattle.ble_slot.specs.declared.answer.Refusal.{Refusal}
use Rattle.ble_slot.specs.declared.answer.Refusal.TheVariants.{BadStateOrBuffer, Argument, Output, OfPacket, NoSlot, NoTransaction, Sequence, Amount}

abbrev pub number_of : Refusal → ℕ
number_of BadStateOrBuffer = 1
number_of Argument = 15
number_of Output = 14
number_of (OfPacket why) = reader.number_of why
number_of NoSlot = 18
number_of NoTransaction = 9
number_of Sequence = 10
number_of Amount = 11

-- the number of a refusal, or what was accepted
abbrev pub told : Result Accepted Refusal → Told Accepted
told = told_by number_of
