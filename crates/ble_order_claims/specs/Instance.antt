-- The claim by computation on four pairs, and a pair of one stream of which it is false.
use Rattle.std.specs.Prelude.{ℕ, ◌*◌, ◌≤◌, ◌≡◌, ◌≢◌, List, [], ◌∷◌, ◌++◌, true, false, length, get_or, replicate}
use Rattle.wire.specs.Told.{given, refused}
use Rattle.wire.specs.declared.stream.Stream.TheVariants.{Control, Ota}
use Rattle.ble_slot.specs.declared.Slot.{Slot}
use Rattle.ble_slot.specs.declared.answer.Accepted.TheVariants.{Taken, Finished, Acked}
use Rattle.ble_slot.specs.Slot.{idles, slot_count, lawful}
use Rattle.ble_receiver.specs.Receiver.{PacketCall, call, accept_of}
use Rattle.ble_order_claims.specs.Lanes.{Both, both_of, turned, HandedPair, EitherOrder}

-- small, so that the buffer is
abbrev pub limit : ℕ
limit = 4

abbrev pub empty : List ℕ
empty = replicate (slot_count * limit) 0x77

-- answer buffers of eight bytes, of six and of five
abbrev pub eight : List ℕ
eight = replicate 8 0xEE

abbrev pub six : List ℕ
six = replicate 6 0xEE

abbrev pub five : List ℕ
five = replicate 5 0xEE

-- ---- two open transactions: control has 1 of 3 bytes, OTA 2 of 4

abbrev pub control : PacketCall
control = call (0x01 ∷ 0x00 ∷ 0x00 ∷ 0x00 ∷ 0x03 ∷ 0x01 ∷ 0xAA ∷ []) 0 six

abbrev pub ota : PacketCall
ota = call (0x23 ∷ 0xF0 ∷ 0x00 ∷ 0x00 ∷ 0x04 ∷ 0x02 ∷ 0x11 ∷ 0x22 ∷ []) 0 six

-- control alone is open; OTA alone
abbrev pub control_open : List Slot
control_open = (accept_of limit idles empty control).slots

abbrev pub ota_open : List Slot
ota_open = (accept_of limit idles empty ota).slots

abbrev pub slots : List Slot
slots = (accept_of limit control_open empty ota).slots

abbrev pub buffer : List ℕ
buffer = 0xAA ∷ (replicate 15 0x77 ++ (0x11 ∷ 0x22 ∷ replicate 30 0x77))

-- ---- four pairs

-- both orders of a pair come to this
abbrev pub Same : PacketCall → PacketCall → Both → Type 0
Same c d b = (both_of limit slots buffer c d ≡ b) × (turned (both_of limit slots buffer d c) ≡ b)

-- control: sequence 2 where 1 is awaited
abbrev pub late : PacketCall
late = call (0x01 ∷ 0x24 ∷ 0x01 ∷ 0xBB ∷ []) 3 six

-- control: the last two bytes
abbrev pub rest : PacketCall
rest = call (0x01 ∷ 0x18 ∷ 0x02 ∷ 0xBB ∷ 0xCC ∷ []) 15 six

-- control: an ACK for the open transaction's id
abbrev pub ack : PacketCall
ack = call (0x01 ∷ 0x0E ∷ 0x00 ∷ 0x02 ∷ 0x01 ∷ 0x00 ∷ []) 0 six

-- OTA: the last two bytes, up to the end of its part; sequence 0 follows 15
abbrev pub end : PacketCall
end = call (0x23 ∷ 0x0A ∷ 0x02 ∷ 0x33 ∷ 0x44 ∷ []) 9 eight

-- OTA: the same as a continuation, which may not reach the total
abbrev pub full : PacketCall
full = call (0x23 ∷ 0x04 ∷ 0x02 ∷ 0x33 ∷ 0x44 ∷ []) 1 eight

-- the last bytes of both, of control with an answer sequence above 15 and of OTA with an answer buffer under six bytes
abbrev pub rest_unlawful : PacketCall
rest_unlawful = call rest.packet 16 eight

abbrev pub end_unlawful : PacketCall
end_unlawful = call end.packet 9 five

-- an unknown stream
abbrev pub unknown : PacketCall
unknown = call (0x51 ∷ 0x24 ∷ 0x01 ∷ 0xDD ∷ []) 2 six

pub record Computed : Type 0 where
  pub handed : HandedPair limit slots buffer late end
  -- 10 makes its own slot idle, and the other stream's message is finished, with its ACK
  pub dropped : Same late end
      (record {
        first = refused 10;
        second = given (Finished 4 Ota 3 4 true false);
        slots = idles;
        bytes = 0xAA ∷ (replicate 15 0x77 ++ (0x11 ∷ 0x22 ∷ 0x33 ∷ 0x44 ∷ replicate 28 0x77));
        first_out = six;
        second-out = 0x23 ∷ 0x9E ∷ 0x00 ∷ 0x02 ∷ 0x01 ∷ 0x00 ∷ 0xEE ∷ 0xEE ∷ [];
      })
  -- an ACK is told, and 11 makes its own slot idle
  pub acknowledged : Same ack full
      (record { first = given (Acked (record { stream = Control; id = 1; sequence = 0 })); second = refused 11; slots = control_open; bytes = buffer; first_out = six; second-out = eight })
  -- 15 and 14 leave all
  pub unlawful : Same rest_unlawful end_unlawful
      (record { first = refused 15; second = refused 14; slots = slots; bytes = buffer; first_out = eight; second-out = five })
  -- a packet of no stream leaves all
  pub refused-by-3 : Same unknown rest
      (record {
        first = refused 3;
        second = given (Finished 0 Control 1 3 false false);
        slots = ota_open;
        bytes = 0xAA ∷ 0xBB ∷ 0xCC ∷ (replicate 13 0x77 ++ (0x11 ∷ 0x22 ∷ replicate 30 0x77));
        first_out = six;
        second-out = six;
      })
  pub claimed : EitherOrder → both_of limit slots buffer late end ≡ turned (both_of limit slots buffer end late)

-- ---- one stream

-- the first packet of another control transaction, with another id
abbrev pub other : PacketCall
other = call (0x02 ∷ 0x00 ∷ 0x00 ∷ 0x00 ∷ 0x03 ∷ 0x01 ∷ 0xEE ∷ []) 0 six

-- The claim with a weaker premise: that the first bytes differ, not the stream fields.
abbrev pub ByFirstBytes : Type 0
ByFirstBytes =
    (limit : ℕ) (slots : List Slot) (bytes : List ℕ) (c d : PacketCall)
    → lawful limit slots ≡ true
    → length bytes ≡ slot_count * limit
    → 1 ≤ length c.packet
    → 1 ≤ length d.packet
    → get_or c.packet 0 0 ≢ get_or d.packet 0 0
    → both_of limit slots bytes c d ≡ turned (both_of limit slots bytes d c)

-- Two first packets of one stream, of different ids: each takes the lowest idle slot, and so the claim asks for the streams.
pub record OneStream : Type 0 where
  pub in_order : (both_of limit idles empty control other).second ≡ given (Taken 1 Control 2 false)
  pub in-the-other : (both_of limit idles empty other control).first ≡ given (Taken 0 Control 2 false)
  pub needed : ByFirstBytes → ⊥
