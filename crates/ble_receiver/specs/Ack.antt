-- What the writer of an ACK needs of an answer.
use Rattle.std.specs.Prelude.{◌<◌}
use Rattle.wire.specs.Told.{Told, given, refused}
use Rattle.ble_packet.specs.Header.{four_bits}
use Rattle.ble_slot.specs.declared.answer.Accepted.{Accepted}
use Rattle.ble_slot.specs.declared.answer.Accepted.TheVariants.{Taken, Finished, Acked, Nacked}

-- the id of a finished transaction has four bits
abbrev pub IdLow : Told Accepted → Type 0
IdLow (given (Finished index stream id total ack replaced)) = id < four_bits
IdLow (given (Taken index stream id replaced)) = Unit {0}
IdLow (given (Acked head)) = Unit {0}
IdLow (given (Nacked head)) = Unit {0}
IdLow (refused n) = Unit {0}
