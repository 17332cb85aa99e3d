-- One packet for C: the calls.
use Rattle.std.specs.Prelude.{ℕ, List, [], get_or}
use Rattle.wire.specs.Bytes.{bit}
use Rattle.ble_packet.specs.Header.{extender_bit}
use Rattle.ble_packet_end.specs.End.{end_of, front_of}
use Rattle.capture_reader.specs.Capture.{number_in}
use Rattle.capture_packet.specs.Place.{packet_at}
use Rattle.c_rows.specs.Row.{number_told}
use Rattle.c_rows.specs.Called.{Called, answers}
use Rattle.c_packets.specs.Convert.{front_row, captured_row}

unfoldable pub packet_read_of : List ℕ → ℕ → List ℕ → Called
packet_read_of bytes limit answer =
    let front = front_of limit bytes in
    answers 10 answer [] (number_told front) [] (front_row (end_of bytes) (bit (extender_bit (get_or bytes 1 0))) front)

unfoldable pub capture_packet_of : List ℕ → ℕ → List ℕ → Called
capture_packet_of bytes place answer =
    let a = packet_at bytes place in
    answers 5 answer [] (number_in a) [] (captured_row a)
