-- Laws of the header's bytes.
use Prim.Native.Nat.{ℕ, ◌/◌, ◌%◌, ◌≤◌, ◌<◌}
use native.Mathlib.Omega.{arith}
use mathlib.Core.Path.{◌≡◌, refl}
use mathlib.Core.Logic.{◌⊎◌}
use mathlib.Core.Bool.{Bool, true, false}
use lib.Dec.{ltb, eqb}
use borrow.Author.Tests.{lt-ltb, ltb-true}
use Rattle.wire.specs.Bytes.{bit}
use Rattle.wire.specs.Stream.{is_stream}
use Rattle.wire.proofs.Tests.{and_left, and_right}
use Rattle.wire.proofs.Streams.{known-stream, stream-low}
use Rattle.ble_packet.specs.Header.{in_range, first_byte, second_byte, stream_bits, id_bits, sequence_bits, type_bits, ack_bit, extender_bit}

-- numbers in their ranges fit their bits
pub in-range-low : (stream id sequence : ℕ) → in_range stream id sequence ≡ true → (stream < 16) × (id < 16) × (sequence < 16)
unfolding in_range
in-range-low stream id sequence e =
    let low = and_right (is_stream stream) _ e in (
      stream-low stream (and_left (is_stream stream) _ e),
      ltb-true id 16 (and_left (ltb id 16) _ low),
      ltb-true sequence 16 (and_right (ltb id 16) _ low),
    )

-- the ranges of docs/FORMATS.md are in range
pub in-range : (stream id sequence : ℕ) → (stream ≡ 0) ⊎ (stream ≡ 2) ⊎ (stream ≡ 6) → id ≤ 15 → sequence ≤ 15 → in_range stream id sequence ≡ true
unfolding in_range
in-range stream id sequence s i q = rw (known-stream stream s, lt-ltb id 16 (omega arith), lt-ltb sequence 16 (omega arith))

-- ---- byte 0, read back

pub stream-back : (stream id : ℕ) → id < 16 → stream_bits (first_byte stream id) ≡ stream
stream-back stream id l = omega arith

pub id-back : (stream id : ℕ) → id < 16 → id_bits (first_byte stream id) ≡ id
id-back stream id l = omega arith

-- ---- byte 1, read back

pub bit-low : (b : Bool) → bit b < 2
bit-low true = omega arith
bit-low false = omega arith

bit-back : (b : Bool) → eqb (bit b) 1 ≡ b
bit-back true = refl
bit-back false = refl

module _ (sequence kind : ℕ) (ack extended : Bool) where
  la : bit ack < 2
  la = bit-low ack

  le : bit extended < 2
  le = bit-low extended

  pub sequence-back : sequence < 16 → kind < 4 → sequence_bits (second_byte sequence kind ack extended) ≡ sequence
  sequence-back ls lk = omega (arith, la, le)

  pub type-back : kind < 4 → type_bits (second_byte sequence kind ack extended) ≡ kind
  type-back lk = omega (arith, la, le)

  pub ack-back : ack_bit (second_byte sequence kind ack extended) ≡ ack
  ack-back =
      let e : second_byte sequence kind ack extended / 2 % 2 ≡ bit ack = omega (arith, la, le) in
      rw e (bit-back ack)

  pub extender-back : extender_bit (second_byte sequence kind ack extended) ≡ extended
  extender-back =
      let e : second_byte sequence kind ack extended % 2 ≡ bit extended = omega (arith, la, le) in
      rw e (bit-back extended)
