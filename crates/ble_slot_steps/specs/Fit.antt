-- What every act on a lawful row keeps to.
use Rattle.std.specs.Prelude.{ℕ, ◌+◌, ◌^◌, ◌≤◌, ◌<◌, ◌≡◌, true, false, List, get_or, set}
use Rattle.ble_packet.specs.declared.reader.Packet.{Packet}
use Rattle.ble_packet.specs.declared.reader.Packet.TheVariants.{First, Next, Ack, Nack}
use Rattle.ble_slot_steps.specs.declared.PayloadPlace.{PayloadPlace}
use Rattle.ble_slot.specs.declared.Slot.{Slot}
use Rattle.ble_slot.specs.Slot.{opens, idle, is_open, any_open, slots_each, lawful_slot}
use Rattle.ble_slot_steps.specs.Step.{Step, Act, still, step}

-- a payload lies within a packet of k bytes, and where it is written within a part
abbrev pub InsidePart : ℕ → ℕ → PayloadPlace → Type 0
InsidePart limit k payload = (payload.start + payload.len ≤ k) × (payload.at + payload.len ≤ limit)

-- a step is at one of its stream's spots, its payload keeps within bounds, and it leaves its slot lawful
pub record Fit (limit k spot : ℕ) (s : Step) : Type 0 where
  pub within : spot < slots_each
  pub inside : InsidePart limit k s.payload
  pub left : lawful_slot limit s.slot ≡ true

abbrev pub ActFits : ℕ → ℕ → Act → Type 0
ActFits limit k (still told) = Unit {0}
ActFits limit k (step spot s) = Fit limit k spot s

-- a step of a packet's own slot among its stream's: an id that it leaves open is open at no other spot, and what was open there had the
-- packet's id
pub record Own (id : ℕ) (lane : List Slot) (spot : ℕ) (s : Step) : Type 0 where
  pub alone : (i : ℕ) → is_open i s.slot ≡ true → any_open i (set lane spot idle) ≡ false
  pub was : opens (get_or lane spot idle) ≡ true → (get_or lane spot idle).id ≡ id

abbrev pub ActOwns : ℕ → List Slot → Act → Type 0
ActOwns id lane (still told) = Unit {0}
ActOwns id lane (step spot s) = Own id lane spot s

-- numbers of a packet that a slot can hold
abbrev pub Small : Packet → Type 0
Small (First head ack total start len) = (len ≤ total) × (total < 65536)
Small (Next head ack last start len) = len < 2 ^ 63
Small (Ack head) = Unit {0}
Small (Nack head) = Unit {0}
