-- Two packets whose stream fields differ, given in either order, each with its own answer sequence and answer buffer. A claim about
-- every pair of packets.
use Rattle.std.specs.Prelude.{ℕ, ◌+◌, ◌*◌, ◌≤◌, ◌<◌, ◌≡◌, ◌≢◌, ◌⊎◌, List, [], ◌∷◌, ◌++◌, true, length, get_or}
use Rattle.std.proofs.lemmas.List.Edits.{sets}
use Rattle.wire.specs.Told.{Told}
use Rattle.ble_packet.specs.Header.{stream_bits}
use Rattle.ble_slot.specs.declared.Slot.{Slot}
use Rattle.ble_slot.specs.declared.answer.Accepted.{Accepted}
use Rattle.ble_slot.specs.Slot.{idle, slot_count, lawful}
use Rattle.ble_receiver.specs.Buffer.{part_start}
use Rattle.ble_receiver.specs.Receiver.{PacketCall, call, PacketLeft, accept_of}

-- ---- two packets, one after the other

-- what is told of the packet that comes first and of the other, what both leave, and the answer buffer of each
pub record Both : Type 0 where
  pub first : Told Accepted
  pub second : Told Accepted
  pub slots : List Slot
  pub bytes : List ℕ
  pub first_out : List ℕ
  pub second-out : List ℕ

-- the second packet meets the slots and the buffer that the first left
abbrev pub both_from : ℕ → PacketLeft → PacketCall → Both
both_from limit l d =
    record {
      first = l.told;
      second = (accept_of limit l.slots l.bytes d).told;
      slots = (accept_of limit l.slots l.bytes d).slots;
      bytes = (accept_of limit l.slots l.bytes d).bytes;
      first_out = l.out;
      second-out = (accept_of limit l.slots l.bytes d).out;
    }

abbrev pub both_of : ℕ → List Slot → List ℕ → PacketCall → PacketCall → Both
both_of limit slots bytes c d = both_from limit (accept_of limit slots bytes c) d

-- the same with the answers exchanged: each stands again with its own packet where the packets are exchanged
abbrev pub turned : Both → Both
turned b =
    record { first = b.second; second = b.first; slots = b.slots; bytes = b.bytes; first_out = b.second-out; second-out = b.first_out }

-- ---- the claim

-- the stream field of a packet: the upper half of byte 0, any of its 16 values
abbrev pub stream_field : List ℕ → ℕ
stream_field p = stream_bits (get_or p 0 0)

-- what the claim asks for
pub record HandedPair (limit : ℕ) (slots : List Slot) (bytes : List ℕ) (c d : PacketCall) : Type 0 where
  pub law : lawful limit slots ≡ true
  -- a buffer of the right size
  pub size : length bytes ≡ slot_count * limit
  -- each packet has at least one byte
  pub filled : (1 ≤ length c.packet) × (1 ≤ length d.packet)
  pub streams : stream_field c.packet ≢ stream_field d.packet

-- From every lawful row and buffer of the right size, for every limit: two packets of at least one byte whose stream fields
-- differ, whatever else they are, each with any answer sequence and answer buffer, get the same two answers and leave the same slots,
-- the same buffer and each its own answer buffer the same in either order.
abbrev pub EitherOrder : Type 0
EitherOrder =
    (limit : ℕ) (slots : List Slot) (bytes : List ℕ) (c d : PacketCall)
    → HandedPair limit slots bytes c d
    → both_of limit slots bytes c d ≡ turned (both_of limit slots bytes d c)

-- ---- what is asked for, in the numbers of docs/FORMATS.md

-- a slot is idle, with all numbers 0, or open
abbrev pub InRules : ℕ → Slot → Type 0
InRules limit s =
    (s ≡ idle)
    ⊎ ((s.opened ≡ 1)
    × (s.id ≤ 15)
    × (s.sequence ≤ 15)
    × (s.wanted ≤ 1)
    × (s.total ≤ limit)
    × (1 ≤ s.held)
    × (s.held < s.total))

-- four slots by the rules, of which no two open ones have one id
pub record FourInRules (limit : ℕ) (slots : ℕ → Slot) : Type 0 where
  pub each : (i : ℕ) → i < 4 → InRules limit (slots i)
  pub ids : (i j : ℕ) → i < j → j < 4 → (slots i).opened ≡ 1 → (slots j).opened ≡ 1 → (slots i).id ≢ (slots j).id

abbrev pub four : (ℕ → Slot) → List Slot
four slots = slots 0 ∷ slots 1 ∷ slots 2 ∷ slots 3 ∷ []

-- Four such slots for each stream, a buffer of twelve times the limit, and packets whose first bytes have different upper halves, with
-- any answer sequences and answer buffers, and nothing else.
abbrev pub HandedAll : Type 0
HandedAll =
    (limit : ℕ) (control ota alexa : ℕ → Slot) (bytes : List ℕ) (m i : ℕ) (p : List ℕ) (n j : ℕ) (q : List ℕ) (a b : ℕ) (x y : List ℕ)
    → FourInRules limit control
    → FourInRules limit ota
    → FourInRules limit alexa
    → length bytes ≡ 12 * limit
    → i ≤ 15
    → j ≤ 15
    → m ≢ n
    → HandedPair limit (four control ++ (four ota ++ four alexa)) bytes (call ((m * 16 + i) ∷ p) a x) (call ((n * 16 + j) ∷ q) b y)

-- ---- the parts of the buffer

-- runs that keep within different parts may be written in either order
abbrev pub PartsApart : Type 0
PartsApart =
    (limit i j at bt : ℕ) (bytes xs ys : List ℕ)
    → i ≢ j
    → at + length xs ≤ limit
    → bt + length ys ≤ limit
    → sets (sets bytes (part_start limit i + at) xs) (part_start limit j + bt) ys
    ≡ sets (sets bytes (part_start limit j + bt) ys) (part_start limit i + at) xs
