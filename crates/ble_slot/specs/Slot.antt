-- A slot: idle, or open with id, last sequence, whether an ACK is wanted, total and count held; and where a stream's slots stand in the
-- row of all.
use Rattle.std.specs.Prelude.{ℕ, ◌*◌, List, [], ◌∷◌, Bool, true, not, cond, ◌&&◌, length, take, drop, replicate, leb, ltb, eqb}
use Rattle.wire.specs.Those.{any}
use Rattle.wire.specs.declared.stream.Stream.{Stream}
use Rattle.wire.specs.declared.stream.Stream.TheVariants.{Control, Ota, Alexa}
use Rattle.ble_packet.specs.Header.{four_bits}
use Rattle.ble_slot.specs.declared.Slot.{Slot}

-- ---- one slot

-- its flags are 0 or 1
abbrev pub opens : Slot → Bool
opens s = eqb s.opened 1

abbrev pub wants : Slot → Bool
wants s = eqb s.wanted 1

-- all its numbers are 0, and it remembers no wish
abbrev pub idle : Slot
idle = record { opened = 0; id = 0; sequence = 0; wanted = 0; total = 0; held = 0 }

-- id and sequence up to 15, total up to the limit, 1 <= held < total; an ACK is wanted or not
abbrev pub open_law : ℕ → Slot → Bool
open_law limit s =
    ltb s.id four_bits
    && (ltb s.sequence four_bits && (ltb s.wanted 2 && (leb s.total limit && (leb 1 s.held && ltb s.held s.total))))

abbrev pub idle_law : Slot → Bool
idle_law s =
    eqb s.opened 0 && (eqb s.id 0 && (eqb s.sequence 0 && (eqb s.wanted 0 && (eqb s.total 0 && eqb s.held 0))))

unfoldable pub lawful_slot : ℕ → Slot → Bool
lawful_slot limit s = cond (opens s) (open_law limit s) (idle_law s)

abbrev pub all_lawful : ℕ → List Slot → Bool
all_lawful limit [] = true
all_lawful limit (s ∷ ss) = lawful_slot limit s && all_lawful limit ss

-- open with that id
abbrev pub is_open : ℕ → Slot → Bool
is_open id s = opens s && eqb s.id id

abbrev pub is_idle : Slot → Bool
is_idle s = not (opens s)

-- ---- the slots of a stream

abbrev pub any_open : ℕ → List Slot → Bool
any_open id = any (is_open id)

abbrev pub any_idle : List Slot → Bool
any_idle = any is_idle

-- no two open slots have one id
abbrev pub distinct : List Slot → Bool
distinct [] = true
distinct (s ∷ ss) = not (opens s && any_open s.id ss) && distinct ss

-- each is lawful, and no two open ones have one id
abbrev pub lane_law : ℕ → List Slot → Bool
lane_law limit lane = all_lawful limit lane && distinct lane

-- ---- the row of all slots: control, OTA, Alexa

-- four slots for each stream
abbrev pub slots_each : ℕ
slots_each = 4

abbrev pub slot_count : ℕ
slot_count = 12

abbrev pub lane_number : Stream → ℕ
lane_number Control = 0
lane_number Ota = 1
lane_number Alexa = 2

-- the index of a stream's first slot
abbrev pub lane_start : Stream → ℕ
lane_start stream = lane_number stream * slots_each

-- the slots of a stream
abbrev pub lane_of : Stream → List Slot → List Slot
lane_of stream slots = take slots_each (drop (lane_start stream) slots)

abbrev pub idles : List Slot
idles = replicate slot_count idle

-- a lawful row: twelve slots, each lawful, and no two open slots of a stream with one id
unfoldable pub lawful : ℕ → List Slot → Bool
lawful limit slots =
    eqb (length slots) slot_count
    && (all_lawful limit slots && (distinct (lane_of Control slots) && (distinct (lane_of Ota slots) && distinct (lane_of Alexa slots))))
