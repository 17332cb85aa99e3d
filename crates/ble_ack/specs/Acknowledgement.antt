-- ACK and NACK packets: what their writer tells, and the output afterwards.
use Rattle.std.specs.Prelude.{ℕ, List, [], ◌∷◌, Bool, not, length, ltb, Result}
use Rattle.std.proofs.lemmas.List.Edits.{sets}
use Rattle.wire.specs.Told.{Told, told_by, line, Written, writes}
use Rattle.ble_packet.specs.Header.{in_range}
use Rattle.ble_packet.specs.Control.{ack_size, ack_bytes}
use Rattle.ble_ack.specs.declared.Refusal.{Refusal}
use Rattle.ble_ack.specs.declared.Refusal.TheVariants.{Argument, Output}

abbrev pub number_of : Refusal → ℕ
number_of Argument = 15
number_of Output = 14

-- the number of a refusal, or how many bytes were written
abbrev pub told : Result ℕ Refusal → Told ℕ
told = told_by number_of

-- writing an ACK or NACK first in a lent output
unfoldable pub ack_of : ℕ → ℕ → ℕ → Bool → List ℕ → Written ℕ
ack_of stream id sequence positive out =
    writes
    (line 15 (not (in_range stream id sequence))
    ∷ line 14 (ltb (length out) ack_size)
    ∷ [])
    ack_size out (sets out 0 (ack_bytes stream id sequence positive))
