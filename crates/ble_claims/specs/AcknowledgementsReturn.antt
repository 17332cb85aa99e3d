-- The claim that ACKs and NACKs return: the reader tells of each one what its writer was given.
use Rattle.std.specs.Prelude.{ℕ, ◌≤◌, ◌≡◌, ◌⊎◌, List, Bool, true, cond, length, take}
use Rattle.wire.specs.Told.{Told, given, and_then}
use Rattle.wire.specs.Stream.{stream_of}
use Rattle.ble_packet.specs.declared.reader.Head.{Head}
use Rattle.ble_packet.specs.declared.reader.Packet.{Packet}
use Rattle.ble_packet.specs.declared.reader.Packet.TheVariants.{Ack, Nack}
use Rattle.ble_packet.specs.Header.{in_range}
use Rattle.ble_packet.specs.Control.{ack_size}
use Rattle.ble_packet.specs.Reader.{read_of}
use Rattle.ble_ack.specs.Acknowledgement.{ack_of}

-- what the writer takes
pub record TakesAck (stream id sequence : ℕ) (out : List ℕ) : Type 0 where
  -- stream, id and sequence in their ranges
  pub arguments : in_range stream id sequence ≡ true
  -- an output for all six bytes
  pub space : ack_size ≤ length out

-- The ranges of docs/FORMATS.md, and nothing else: no premise of the claim asks for more.
abbrev pub TakesEveryAck : Type 0
TakesEveryAck =
    (stream id sequence : ℕ) (out : List ℕ)
    → (stream ≡ 0) ⊎ (stream ≡ 2) ⊎ (stream ≡ 6)
    → id ≤ 15
    → sequence ≤ 15
    → 6 ≤ length out
    → TakesAck stream id sequence out

-- what is told of the bytes that a call wrote: as many as it told, first in the output
abbrev pub ack_read : ℕ → ℕ → ℕ → ℕ → Bool → List ℕ → Told Packet
ack_read limit stream id sequence positive out =
    and_then (ack_of stream id sequence positive out).told (λ n. read_of limit (take n (ack_of stream id sequence positive out).out))

abbrev pub AcknowledgementsReturn : Type 0
AcknowledgementsReturn =
    (limit stream id sequence : ℕ) (positive : Bool) (out : List ℕ)
    → TakesAck stream id sequence out
    → ack_read limit stream id sequence positive out
    ≡ (let head : Head = record { stream = stream_of stream; id = id; sequence = sequence } in given (cond positive (Ack head) (Nack head)))
