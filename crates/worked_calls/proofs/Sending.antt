-- A receiver opened, packets and ACKs written, called from C, by computation.
use mathlib.Core.Path.{refl}
use Rattle.ble_ack.specs.Acknowledgement.{ack_of}
use Rattle.c_receiving.specs.Calls.{receiver_open_of}
use Rattle.c_sending.specs.Calls.{ack_write_of, packet_write_of}
use Rattle.c_sending.specs.Convert.{sending_of, stream_with}
use Rattle.ble_packet.specs.Header.{in_range}
use Rattle.ble_receiver.specs.Receiver.{open_of}
use Rattle.c_rows.specs.Row.{byte_or}
use Rattle.ble_sender.specs.Piece.{size_for}
use Rattle.ble_sender.specs.Writer.{arguments_fit, header_bytes, packet_of, room_fits, written_of}
use Rattle.wire.specs.Limit.{limit_fits}
use Rattle.wire.specs.Stream.{is_stream}
use Rattle.worked_calls.specs.Sending.{SendingCalls, sending_rows}

pub sending-calls : SendingCalls
unfolding SendingCalls sending_rows ack_of receiver_open_of ack_write_of packet_write_of sending_of stream_with in_range open_of byte_or size_for arguments_fit header_bytes packet_of room_fits written_of limit_fits is_stream
sending-calls = (refl, refl)
