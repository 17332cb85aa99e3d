-- ACKs and NACKs return.
use Prim.Native.Nat.{◌≤◌}
use native.Mathlib.Omega.{arith}
use lib.ListN.{length}
use borrow.Author.Tests.{le-ltb}
use Rattle.wire.specs.Stream.{is_stream}
use Rattle.wire.proofs.Stores.{first-bytes}
use Rattle.wire.proofs.Tests.{and_left}
use Rattle.ble_packet.specs.Header.{in_range}
use Rattle.ble_packet.specs.Control.{ack_size, ack_bytes}
use Rattle.ble_packet.proofs.Headers.{in-range, in-range-low}
use Rattle.ble_packet.proofs.Reading.{ack-read}
use Rattle.ble_ack.specs.Acknowledgement.{ack_of}
use Rattle.ble_claims.specs.AcknowledgementsReturn.{AcknowledgementsReturn, TakesEveryAck}

pub acknowledgements-return : AcknowledgementsReturn
unfolding ack_of in_range
acknowledgements-return limit stream id sequence positive out t =
    let e = t.arguments in
    let h : ack_size ≤ length out = omega arith in
    let low = in-range-low stream id sequence e in
    rw (e, le-ltb (length out) ack_size h, first-bytes out (ack_bytes stream id sequence positive) h)
    (ack-read limit stream id sequence positive (and_left (is_stream stream) _ e) low.1 low.2)

pub takes-every-ack : TakesEveryAck
takes-every-ack stream id sequence out s i q h = record { arguments = in-range stream id sequence s i q; space = omega arith }
