-- The one slot that is stored makes the row that a packet leaves.
use Prim.Native.Nat.{ℕ, zero, suc, ◌+◌, ◌<◌}
use native.Mathlib.Omega.{arith}
use native.Mathlib.Nat.{add-zero}
use mathlib.Core.Path.{◌≡◌, refl, sym, ap, ◌∙◌}
use mathlib.Core.List.{List, ◌∷◌}
use mathlib.Core.Bool.{Bool, true, false, ◌&&◌, and-false}
use lib.ListN.{length, get_or, set, drop, drop_of_length-le}
use lib.Seq.{set-get_or, drop-cons, get_or-take, get_or-drop}
use lib.Dec.{ltb, eqb}
use borrow.Author.Tests.{eqb-true}
use Rattle.wire.specs.Told.{Told, refused}
use Rattle.wire.specs.declared.stream.Stream.{Stream}
use Rattle.wire.proofs.Tests.{and_left, and_right}
use Rattle.ble_packet.specs.declared.reader.Packet.{Packet}
use Rattle.ble_packet.specs.Header.{four_bits}
use Rattle.ble_packet.specs.Control.{ack_size}
use Rattle.ble_packet.specs.Reader.{read_of}
use Rattle.ble_slot.specs.declared.Slot.{Slot}
use Rattle.ble_slot.specs.declared.answer.Accepted.{Accepted}
use Rattle.ble_slot.specs.Slot.{idle, slots_each, slot_count, lane_start, lane_of, lawful}
use Rattle.ble_slot.proofs.Lanes.{spot-low}
use Rattle.ble_slot_steps.specs.declared.Step.{Step}
use Rattle.ble_slot_steps.specs.Step.{Act, still, step, StepAt, act_at}
use Rattle.ble_slot_steps.specs.Fit.{InsidePart, ActFits}
use Rattle.ble_receiver.specs.Buffer.{stored}
use Rattle.ble_receiver.specs.Receiver.{applied, acted, ready, PacketCall, PacketLeft, left, answered, leaves, read_in, accept_of}
use Rattle.ble_receiver.specs.Outcome.{left_by, slots_from, first_twelve}

slots-from : (n at : ℕ) (l : List Slot) → at + n ≡ length l → slots_from n at l ≡ drop at l
slots-from zero at l e = sym (drop_of_length-le l {i = at} (omega arith))
slots-from (suc n) at l e =
    ap (λ (m : List Slot). get_or l at idle ∷ m) (slots-from n (suc at) l (omega arith)) ∙ sym (drop-cons l at idle (omega arith))

-- a row of twelve is what the rules see
pub twelve : (l : List Slot) → length l ≡ slot_count → first_twelve l ≡ l
unfolding first_twelve
twelve l e = slots-from slot_count 0 l (omega arith)

pub first-same : (row slots : List Slot) → slots ≡ first_twelve row → get_or row 0 idle ≡ get_or slots 0 idle
unfolding first_twelve
first-same row slots e = sym (ap (λ (l : List Slot). get_or l 0 idle) e)

-- a slot that is stored as it was leaves the row
pub same_left : (t : Told Accepted) (at : ℕ) (row : List Slot) (s : Slot) (bytes out : List ℕ) → get_or row at idle ≡ s
    → left t (set row at s) bytes out ≡ left t row bytes out
same_left t at row s bytes out e = ap (λ (l : List Slot). left t l bytes out) (ap (set row at) (sym e) ∙ set-get_or row at idle)

-- ---- a step

-- what a step at its index leaves
abbrev pub left_at : ℕ → ℕ → List Slot → List ℕ → List ℕ → List ℕ → StepAt → PacketLeft
left_at limit sequence slots bytes p out d =
    left d.step.told (set slots d.index d.step.slot) (stored limit d.index bytes p d.step.payload) (answered sequence d.step.told out)

lane_first : (t : Stream) (slots : List Slot) → get_or slots (lane_start t) idle ≡ get_or (lane_of t slots) 0 idle
lane_first t slots =
    sym (get_or-take slots_each (drop (lane_start t) slots) 0 idle (omega arith)
    ∙ get_or-drop (lane_start t) slots 0 idle
    ∙ ap (λ (i : ℕ). get_or slots i idle) (add-zero (lane_start t)))

pub acted-left : (limit sequence : ℕ) (t : Stream) (slots : List Slot) (bytes p out : List ℕ) (act : Act)
    → left_at limit sequence slots bytes p out (act_at (lane_start t) (lane_of t slots) act) ≡ leaves sequence out (applied limit slots bytes p (lane_start t) act)
acted-left limit sequence t slots bytes p out (still a) =
    same_left a (lane_start t) slots (get_or (lane_of t slots) 0 idle) bytes (answered sequence a out) (lane_first t slots)
acted-left limit sequence t slots bytes p out (step spot s) = refl

-- it is at an index of the row, and its payload within its packet and its part
pub at-fits : (limit k : ℕ) (t : Stream) (lane : List Slot) (act : Act) → ActFits limit k act
    → ((act_at (lane_start t) lane act).index < slot_count) × InsidePart limit k (act_at (lane_start t) lane act).step.payload
at-fits limit k t lane (still a) f = let low = spot-low t 0 (omega arith) in (omega (arith, low), (omega arith, omega arith))
at-fits limit k t lane (step spot s) f = (spot-low t spot f.within, f.inside)

-- ---- a row of any length

-- a row of another length is not ready
other-count : (limit : ℕ) (row : List Slot) (size : ℕ) → eqb (length row) slot_count ≡ false → ready limit row size ≡ false
unfolding ready lawful
other-count limit row size e = simp (e, and-false)

unready-by : (limit : ℕ) (row : List Slot) (size : ℕ) (b : Bool) → eqb (length row) slot_count ≡ b
    → (eqb (length row) slot_count && ready limit (first_twelve row) size) ≡ false → ready limit row size ≡ false
unready-by limit row size false e h = other-count limit row size e
unready-by limit row size true e h =
    ap (λ (l : List Slot). ready limit l size) (sym (twelve row (eqb-true (length row) slot_count e))) ∙ rw e at h

pub unready : (limit count size : ℕ) (row slots : List Slot) → length row ≡ count → slots ≡ first_twelve row
    → (eqb count slot_count && ready limit slots size) ≡ false → ready limit row size ≡ false
unready limit count size row slots n e h =
    unready-by limit row size (eqb (length row) slot_count) refl
    (ap (λ (k : ℕ). eqb k slot_count && ready limit (first_twelve row) size) n ∙ ap (λ (l : List Slot). eqb count slot_count && ready limit l size) (sym e) ∙ h)

pub all_seen : (limit count size : ℕ) (row slots : List Slot) → length row ≡ count → slots ≡ first_twelve row
    → (eqb count slot_count && ready limit slots size) ≡ true → slots ≡ row
all_seen limit count size row slots n e h = e ∙ twelve row (n ∙ eqb-true count slot_count (and_left (eqb count slot_count) _ h))

-- ---- what is told before the slots are looked at

pub fifteen : (limit : ℕ) (c : PacketCall) → ltb c.sequence four_bits ≡ false → read_in limit c ≡ refused 15
unfolding read_in
fifteen limit c e = rw e

pub fourteen : (limit : ℕ) (c : PacketCall) → ltb c.sequence four_bits ≡ true → ltb (length c.out) ack_size ≡ true → read_in limit c ≡ refused 14
unfolding read_in
fourteen limit c e f = rw (e, f)

pub read-there : (limit : ℕ) (c : PacketCall) → ltb c.sequence four_bits ≡ true → ltb (length c.out) ack_size ≡ false
    → read_in limit c ≡ read_of limit c.packet
unfolding read_in
read-there limit c e f = rw (e, f)

-- refusal 1, and what is done without it
pub refused-one : (limit : ℕ) (row : List Slot) (bytes : List ℕ) (c : PacketCall) → ready limit row (length bytes) ≡ false
    → accept_of limit row bytes c ≡ left (refused 1) row bytes c.out
unfolding accept_of
refused-one limit row bytes c r = rw r

let-in : (limit : ℕ) (row : List Slot) (bytes : List ℕ) (c : PacketCall) (t : Told Packet) → ready limit row (length bytes) ≡ true → read_in limit c ≡ t
    → accept_of limit row bytes c ≡ leaves c.sequence c.out (acted limit row bytes c.packet t)
unfolding accept_of
let-in limit row bytes c t r e = rw (r, e)

pub told-by : (limit count : ℕ) (row slots : List Slot) (bytes : List ℕ) (c : PacketCall) (t : Told Packet) → length row ≡ count → slots ≡ first_twelve row
    → (eqb count slot_count && ready limit slots (length bytes)) ≡ true → read_in limit c ≡ t
    → accept_of limit row bytes c ≡ leaves c.sequence c.out (acted limit row bytes c.packet t)
told-by limit count row slots bytes c t n e h r =
    let same : slots ≡ row = all_seen limit count (length bytes) row slots n e h in
    let fit : ready limit row (length bytes) ≡ true
    = ap (λ (l : List Slot). ready limit l (length bytes)) (sym same) ∙ and_right (eqb count slot_count) _ h in
    let-in limit row bytes c t fit r

pub step_row : (limit count : ℕ) (row slots : List Slot) (bytes after out : List ℕ) (c : PacketCall) (s : Step) (t : Told Packet) → length row ≡ count
    → slots ≡ first_twelve row → (eqb count slot_count && ready limit slots (length bytes)) ≡ true → read_in limit c ≡ t
    → left_by slots s after out ≡ leaves c.sequence c.out (acted limit slots bytes c.packet t) → left_by row s after out ≡ accept_of limit row bytes c
step_row limit count row slots bytes after out c s t n e h r done =
    let same : slots ≡ row = all_seen limit count (length bytes) row slots n e h in
    ap (λ (l : List Slot). left_by l s after out) (sym same)
    ∙ done
    ∙ ap (λ (l : List Slot). leaves c.sequence c.out (acted limit l bytes c.packet t)) same
    ∙ sym (told-by limit count row slots bytes c t n e h r)
