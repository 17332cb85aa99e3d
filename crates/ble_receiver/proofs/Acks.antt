-- A finished transaction's id has four bits.
use Prim.Native.Nat.{ℕ, ◌+◌, ◌<◌}
use mathlib.Core.List.{List}
use lib.ListN.{get_or}
use Rattle.ble_packet.specs.declared.reader.Head.{Head}
use Rattle.ble_packet.specs.declared.reader.Packet.{Packet}
use Rattle.ble_packet.specs.declared.reader.Packet.TheVariants.{First, Next, Ack, Nack}
use Rattle.ble_packet.specs.Header.{four_bits}
use Rattle.ble_packet.proofs.Reading.{PayloadWithin}
use Rattle.ble_slot.specs.declared.Slot.{Slot}
use Rattle.ble_slot.specs.Slot.{idle}
use Rattle.ble_slot_steps.specs.Step.{Step, Act, still, step, finish, hold, drop_by, first_step, next_step, open_spot, first_spot, act_of, act_at}
use Rattle.ble_slot_steps.proofs.Each.{EachStep, first-each, next-each, at_each}
use Rattle.ble_receiver.specs.Ack.{IdLow}

abbrev StepLow : Step → Type 0
StepLow s = IdLow s.told

abbrev pub ActLow : Act → Type 0
ActLow (still t) = IdLow t
ActLow (step spot s) = StepLow s

each-low : (h : Head) → h.id < four_bits → EachStep h StepLow
unfolding finish hold drop_by
each-low h low =
    record {
      finished = λ at wanted total replaced payload. low;
      held = λ at wanted total replaced payload. tt;
      ten = tt;
      eleven = tt;
    }

-- what a packet that was read does
pub act-low : (limit k first : ℕ) (lane : List Slot) (x : Packet) → PayloadWithin limit k x → ActLow (act_of first lane x)
act-low limit k first lane (First h ack total start len) w =
    at_each ActLow 18 (λ spot. first_step (first + spot) (get_or lane spot idle) h ack total start len) (first_spot lane h.id) tt (λ spot e.
    first-each StepLow (each-low h w.4.0) (first + spot) (get_or lane spot idle) ack total start len)
act-low limit k first lane (Next h ack last start len) w =
    at_each ActLow 9 (λ spot. next_step (first + spot) (get_or lane spot idle) h ack last start len) (open_spot lane h.id) tt (λ spot e.
    next-each StepLow (each-low h w.1.0) (first + spot) (get_or lane spot idle) ack last start len)
act-low limit k first lane (Ack h) w = tt
act-low limit k first lane (Nack h) w = tt

-- and what is told of it
pub at_low : (first : ℕ) (lane : List Slot) (act : Act) → ActLow act → IdLow (act_at first lane act).step.told
at_low first lane (still t) low = low
at_low first lane (step spot s) low = low
