-- A packet accepted, called from C, by computation.
use mathlib.Core.Path.{refl}
use Rattle.c_receiving.specs.Calls.{receiver_accept_of}
use Rattle.ble_packet.specs.Reader.{content_of, fields_of, lines, read_of}
use Rattle.ble_receiver.specs.Receiver.{accept_of, read_in, ready}
use Rattle.c_rows.specs.Row.{byte_or}
use Rattle.ble_slot.specs.Slot.{lawful, lawful_slot}
use Rattle.ble_slot_steps.specs.Step.{drop_by, finish, first_step, hold, next_step}
use Rattle.wire.specs.Limit.{limit_fits}
use Rattle.wire.specs.Stream.{is_stream, stream_of}
use Rattle.worked_calls.specs.Receiving.{ReceivingCalls, receiving_rows}

pub receiving-calls : ReceivingCalls
unfolding ReceivingCalls receiving_rows receiver_accept_of content_of fields_of lines read_of accept_of read_in ready byte_or lawful lawful_slot drop_by finish first_step hold next_step limit_fits is_stream stream_of
receiving-calls = refl
