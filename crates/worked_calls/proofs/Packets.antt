-- One packet read, called from C, by computation.
use mathlib.Core.Path.{refl}
use Rattle.wire.specs.Stream.{is_stream, stream_of}
use Rattle.ble_packet.specs.Reader.{content_of, fields_of, lines, read_of}
use Rattle.ble_packet_end.specs.End.{said_length, end_of}
use Rattle.ble_packet_end.specs.End as end
use Rattle.capture_reader.specs.Capture.{front_of, other_version}
use Rattle.capture_packet.specs.Place.{bad_place, packet_at}
use Rattle.c_packets.specs.Calls.{packet_read_of, capture_packet_of}
use Rattle.worked_calls.specs.Packets.{PacketCalls, packets_rows}

pub packet-calls : PacketCalls
unfolding PacketCalls packets_rows packet_read_of capture_packet_of is_stream stream_of content_of fields_of lines read_of said_length end_of end.front_of front_of other_version bad_place packet_at
packet-calls = refl
