-- Sending over Low Energy for C: the calls for the packets of a message, for ACK and NACK.
use Rattle.std.specs.Prelude.{ℕ, List, length, eqb}
use Rattle.wire.specs.Told.{Written}
use Rattle.ble_ack.specs.Acknowledgement.{ack_of}
use Rattle.ble_sender.specs.declared.writer.Sending.{Sending}
use Rattle.ble_sender.specs.declared.writer.Sent.{Sent}
use Rattle.ble_sender.specs.Writer.{written_of}
use Rattle.c_rows.specs.Row.{number_told, byte_or, out_of_range}
use Rattle.c_sending.specs.Convert.{stream_with, packet_row}
use Rattle.c_rows.specs.Called.{Called, answers, writer_call}

abbrev pub packet_call : ℕ → List ℕ → List ℕ → Written Sent → Called
packet_call end out answer w = answers 2 answer out (number_told w.told) w.out (packet_row end w.told)

unfoldable pub packet_write_of : ℕ → Sending → List ℕ → ℕ → List ℕ → List ℕ → Called
packet_write_of limit how message place out answer = packet_call (length message) out answer (written_of limit how message place out)

unfoldable pub ack_write_of : ℕ → ℕ → ℕ → ℕ → List ℕ → List ℕ → Called
ack_write_of stream id sequence positive out answer =
    writer_call out answer (ack_of (stream_with positive stream) (byte_or out_of_range id) (byte_or out_of_range sequence) (eqb positive 1) out)
