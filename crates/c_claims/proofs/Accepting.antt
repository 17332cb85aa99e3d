-- A packet that is refused by 1 leaves the row and the lent bytes.
use Prim.Native.Nat.{ℕ, ◌+◌}
use mathlib.Core.Path.{◌≡◌, refl}
use mathlib.Core.List.{List}
use native.Mathlib.Omega.{arith}
use lib.ListN.{get_or}
use Rattle.wire.specs.Told.{Told, given, refused}
use Rattle.ble_packet.specs.Reader.{head_in}
use Rattle.ble_packet.specs.declared.reader.Head.{Head}
use Rattle.ble_packet.specs.declared.reader.Packet.{Packet}
use Rattle.ble_packet.specs.declared.reader.Packet.TheVariants.{First, Next, Ack, Nack}
use Rattle.ble_slot.specs.declared.Slot.{Slot}
use Rattle.ble_slot.specs.Slot.{idle, lane_start, lane_of}
use Rattle.ble_slot_steps.specs.Step.{Step, Act, still, step, finish, hold, drop_by, open_spot, first_spot, act_of}
use Rattle.ble_slot.specs.declared.answer.Accepted.{Accepted}
use Rattle.ble_slot_steps.proofs.Each.{EachStep, first-each, next-each, at_each}
use Rattle.ble_receiver.specs.Receiver.{applied, act_in, acted, answered}
use Rattle.c_rows.specs.Row.{number_told}
use Rattle.c_claims.proofs.Rows.{never}

-- no step is refused by 1
abbrev NotOne : Step → Type 0
NotOne s = number_told s.told ≡ 1 → ⊥

each-not : (h : Head) → EachStep h NotOne
unfolding finish hold drop_by
each-not h =
    record {
      finished = λ at wanted total replaced payload. never;
      held = λ at wanted total replaced payload. never;
      ten = λ e. absurd (omega (arith, e));
      eleven = λ e. absurd (omega (arith, e));
    }

-- an act that is refused by 1 leaves all
abbrev ActNotOne : Act → Type 0
ActNotOne (still told) = Unit {0}
ActNotOne (step spot s) = NotOne s

act-not : (first : ℕ) (lane : List Slot) (x : Packet) → ActNotOne (act_of first lane x)
act-not first lane (First head ack total start len) =
    at_each ActNotOne 18 _ (first_spot lane head.id) tt (λ spot e. first-each NotOne (each-not head) (first + spot) (get_or lane spot idle) ack total start len)
act-not first lane (Next head ack last start len) =
    at_each ActNotOne 9 _ (open_spot lane head.id) tt (λ spot e. next-each NotOne (each-not head) (first + spot) (get_or lane spot idle) ack last start len)
act-not first lane (Ack head) = tt
act-not first lane (Nack head) = tt

applied-keeps : (limit first : ℕ) (slots : List Slot) (bytes packet : List ℕ) (act : Act) → ActNotOne act
    → number_told (applied limit slots bytes packet first act).told ≡ 1
    → ((applied limit slots bytes packet first act).slots ≡ slots) × ((applied limit slots bytes packet first act).bytes ≡ bytes)
applied-keeps limit first slots bytes packet (still told) h e = (refl, refl)
applied-keeps limit first slots bytes packet (step spot s) h e = absurd (h e)

pub acted-keeps : (limit : ℕ) (slots : List Slot) (bytes packet : List ℕ) (t : Told Packet)
    → number_told (acted limit slots bytes packet t).told ≡ 1
    → ((acted limit slots bytes packet t).slots ≡ slots) × ((acted limit slots bytes packet t).bytes ≡ bytes)
acted-keeps limit slots bytes packet (refused n) e = (refl, refl)
acted-keeps limit slots bytes packet (given x) e =
    applied-keeps limit (lane_start (head_in x).stream) slots bytes packet (act_in slots x) (act-not (lane_start (head_in x).stream) (lane_of (head_in x).stream slots) x) e

-- and the answer buffer
pub answered-keeps : (sequence : ℕ) (out : List ℕ) (t : Told Accepted) → number_told t ≡ 1 → answered sequence t out ≡ out
answered-keeps sequence out (refused n) e = refl
answered-keeps sequence out (given x) e = never e
