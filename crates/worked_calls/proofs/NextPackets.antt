-- What the program why says is expected, by computation.
use mathlib.Core.Path.{refl}
use Rattle.capture_next.specs.NextPacket.{next_of}
use Rattle.ble_sender.specs.Piece.{size_for}
use Rattle.ble_sender.specs.Writer.{room_fits}
use Rattle.worked_calls.specs.NextPackets.{NextPackets, next_packets_rows}

pub next-packets : NextPackets
unfolding NextPackets next_packets_rows next_of size_for room_fits
next-packets = (refl, refl)
