-- What a packet does to the slots, by what is told of it.
use Prim.Native.Nat.{ℕ, ◌+◌, ◌<◌}
use native.Mathlib.Omega.{arith}
use mathlib.Core.Path.{◌≡◌, refl, sym, ◌∙◌}
use mathlib.Core.List.{List}
use mathlib.Core.Bool.{Bool, true, false, cond, ◌||◌, false≢true}
use lib.ListN.{length, get_or, set}
use lib.Dec.{eqb}
use borrow.Author.Tests.{eqb-true, not-true}
use Rattle.std.specs.Prelude.{Option, None, Some}
use Rattle.wire.specs.Bytes.{bit}
use Rattle.wire.specs.Told.{Told, given, refused}
use Rattle.wire.specs.declared.stream.Stream.{Stream}
use Rattle.wire.proofs.Tests.{and_left, and_right}
use Rattle.ble_packet.specs.declared.reader.Head.{Head}
use Rattle.ble_packet.specs.declared.reader.Packet.{Packet}
use Rattle.ble_packet.specs.declared.reader.Packet.TheVariants.{First, Next, Ack, Nack}
use Rattle.ble_packet.specs.Reader.{fields_of, is_first, read_of}
use Rattle.ble_packet.proofs.Reading.{IfGiven}
use Rattle.ble_slot.specs.declared.Slot.{Slot}
use Rattle.ble_slot.specs.declared.answer.Accepted.{Accepted}
use Rattle.ble_slot.specs.Slot.{opens, wants, idle, lane_start, lane_of, is_open, any_open}
use Rattle.ble_slot.proofs.Slots.{any-set, alone_at, LawfulRow}
use Rattle.ble_slot_steps.specs.Step.{Step, finish, hold, drop_by, first_step, lines, next_step, first_spot, open_spot, at_spot}
use Rattle.ble_slot_steps.proofs.Steps.{FoundSlot, found, FirstSlot, again, fresh, chosen}
use Rattle.ble_receiver.specs.Receiver.{Result, applied, acted}
use Rattle.capture_report.specs.Costs.{Heard, heard, accepts, finishes, replaces, drops, begins, leaves_open, closes}
use Rattle.capture_report.proofs.Reading.{NamedPacket, NamedBy, read_named, KindBy, read-kind, by-numbers, IfRefused, DropsNone, read-drops-none}

-- ---- one slot

-- what a packet of an id makes of a slot s, by what is told
pub record SlotFlow (id : ℕ) (s x : Slot) (h : Heard) : Type 0 where
  pub flow : bit (opens x) + (bit (finishes h.told) + bit (replaces h.told) + bit (drops h.told)) ≡ bit (opens s) + bit (begins h)
  pub named : opens x ≡ true → x.id ≡ id
  pub anew : closes h ≡ true → opens x ≡ leaves_open h
  pub goes_on : closes h ≡ false → (opens x ≡ true) × (opens s ≡ true)

first_by : (p : List ℕ) (at : ℕ) (s : Slot) (h : Head) (ack : Bool) (total start len : ℕ) (b : Bool) → eqb len total ≡ b → is_first (fields_of p) ≡ true
    → SlotFlow h.id s (first_step at s h ack total start len).slot (heard p (first_step at s h ack total start len).told)
unfolding first_step finish hold
first_by p at s h ack total start len true e k =
    rw e (record { flow = rw k (omega arith); named = λ o. absurd (false≢true o); anew = λ z. rw k; goes_on = λ z. absurd (false≢true (sym (rw k at z))) })
first_by p at s h ack total start len false e k =
    rw e (record { flow = rw k (omega arith); named = λ o. refl; anew = λ z. rw k; goes_on = λ z. absurd (false≢true (sym (rw k at z))) })

first-flow : (p : List ℕ) (at : ℕ) (s : Slot) (h : Head) (ack : Bool) (total start len : ℕ) → is_first (fields_of p) ≡ true
    → SlotFlow h.id s (first_step at s h ack total start len).slot (heard p (first_step at s h ack total start len).told)
first-flow p at s h ack total start len k = first_by p at s h ack total start len (eqb len total) refl k

module _ (p : List ℕ) (at : ℕ) (s : Slot) (h : Head) (o : opens s ≡ true) (k : is_first (fields_of p) ≡ false) where
  abbrev StepFlows : Step → Type 0
  StepFlows x = SlotFlow h.id s x.slot (heard p x.told)

  dropped-flow : (n : ℕ) → (eqb n 10 || eqb n 11) ≡ true → StepFlows (drop_by n)
  unfolding drop_by
  dropped-flow n q =
      record { flow = rw (q, o); named = λ z. absurd (false≢true z); anew = λ z. refl; goes_on = λ z. absurd (false≢true (sym z ∙ q)) }

  go-on-flow : (wanted last : Bool) (start len : ℕ)
      → StepFlows
      (cond last (finish at h wanted s.total false (record { at = s.held; start = start; len = len }))
      (hold at h wanted s.total false (record { at = s.held; start = start; len = len })))
  unfolding finish hold
  go-on-flow wanted true start len =
      record { flow = rw (o, k); named = λ z. absurd (false≢true z); anew = λ z. rw k; goes_on = λ z. absurd (false≢true (sym (rw k at z))) }
  go-on-flow wanted false start len =
      record { flow = rw (o, k); named = λ z. refl; anew = λ z. absurd (false≢true (rw k at z)); goes_on = λ z. (refl, o) }

  next-flow : (ack last : Bool) (start len : ℕ) → StepFlows (next_step at s h ack last start len)
  unfolding next_step
  next-flow ack last start len =
      by-numbers StepFlows (λ (n : ℕ). (eqb n 10 || eqb n 11) ≡ true) (lines s h last len) drop_by _ (refl, (refl, tt)) dropped-flow
      (go-on-flow (wants s || ack) last start len)

-- ---- the row

-- a store at a spot among the packet's stream's slots, where no other is open with its id
pub record SlotMove (t : Stream) (slots : List Slot) (spot : ℕ) (x : Slot) (h : Heard) : Type 0 where
  pub id : ℕ
  pub head : NamedPacket h.packet t id
  pub below : spot < length (lane_of t slots)
  pub was : opens (get_or (lane_of t slots) spot idle) ≡ true → (get_or (lane_of t slots) spot idle).id ≡ id
  pub others : any_open id (set (lane_of t slots) spot idle) ≡ false
  pub flow : SlotFlow id (get_or (lane_of t slots) spot idle) x h

-- nothing is told that counts
pub record Quiet (t : Told Accepted) : Type 0 where
  pub not-accepted : accepts t ≡ false
  pub not-finished : finishes t ≡ false
  pub not-replaced : replaces t ≡ false
  pub not-dropped : drops t ≡ false

pub data Did (slots after : List Slot) (h : Heard) : Type 0 where
  quiet : after ≡ slots → Quiet h.told → Did slots after h
  moved : (t : Stream) (spot : ℕ) (x : Slot) → after ≡ set slots (lane_start t + spot) x → SlotMove t slots spot x h → Did slots after h

refused-quiet : (n : ℕ) → DropsNone n → Quiet (refused n)
refused-quiet n q = record { not-accepted = refl; not-finished = refl; not-replaced = refl; not-dropped = q }

abbrev ResultDid : List Slot → List ℕ → Result → Type 0
ResultDid slots p r = Did slots r.slots (heard p r.told)

at-did : (limit : ℕ) (slots : List Slot) (bytes p : List ℕ) (t : Stream) (n : ℕ) (f : ℕ → Step) (o : Option ℕ) → DropsNone n
    → ((spot : ℕ) → o ≡ Some spot → SlotMove t slots spot (f spot).slot (heard p (f spot).told))
    → ResultDid slots p (applied limit slots bytes p (lane_start t) (at_spot n f o))
at-did limit slots bytes p t n f None q h = quiet refl (refused-quiet n q)
at-did limit slots bytes p t n f (Some spot) q h = moved t spot (f spot).slot refl (h spot refl)

module _ (limit : ℕ) (slots : List Slot) (law : LawfulRow limit slots) (bytes p : List ℕ) where
  abbrev at : Stream → ℕ → Slot
  at t spot = get_or (lane_of t slots) spot idle

  again-move : (t : Stream) (id spot : ℕ) (x : Slot) (told : Told Accepted) → NamedPacket p t id → FoundSlot (is_open id) (lane_of t slots) spot
      → SlotFlow id (at t spot) x (heard p told) → SlotMove t slots spot x (heard p told)
  again-move t id spot x told n f u =
      record {
        id = id;
        head = n;
        below = f.below;
        was = λ o. eqb-true (at t spot).id id (and_right (opens (at t spot)) _ f.passes);
        others = alone_at id (lane_of t slots) spot (law.apart t) f.passes;
        flow = u;
      }

  chosen-move : (t : Stream) (id spot : ℕ) (x : Slot) (told : Told Accepted) → NamedPacket p t id → FirstSlot (lane_of t slots) id spot
      → SlotFlow id (at t spot) x (heard p told) → SlotMove t slots spot x (heard p told)
  chosen-move t id spot x told n (again f) u = again-move t id spot x told n f u
  chosen-move t id spot x told n (fresh f e) u =
      record {
        id = id;
        head = n;
        below = f.below;
        was = λ o. absurd (false≢true (sym (not-true (opens (at t spot)) f.passes) ∙ o));
        others = any-set id (lane_of t slots) spot idle e refl;
        flow = u;
      }

  act-did : (y : Packet) → NamedBy p y → KindBy (is_first (fields_of p)) y → ResultDid slots p (acted limit slots bytes p (given y))
  act-did (First h ack total start len) n kind =
      at-did limit slots bytes p h.stream 18 _ (first_spot (lane_of h.stream slots) h.id) refl (λ spot o.
      chosen-move h.stream h.id spot _ _ n (chosen (lane_of h.stream slots) h.id spot o)
      (first-flow p (lane_start h.stream + spot) (at h.stream spot) h ack total start len kind))
  act-did (Next h ack last start len) n kind =
      at-did limit slots bytes p h.stream 9 _ (open_spot (lane_of h.stream slots) h.id) refl (λ spot o.
      let f = found (is_open h.id) (lane_of h.stream slots) spot o in
      again-move h.stream h.id spot _ _ n f
      (next-flow p (lane_start h.stream + spot) (at h.stream spot) h (and_left (opens (at h.stream spot)) _ f.passes) kind ack last start len))
  act-did (Ack h) n kind = quiet refl (record { not-accepted = refl; not-finished = refl; not-replaced = refl; not-dropped = refl })
  act-did (Nack h) n kind = quiet refl (record { not-accepted = refl; not-finished = refl; not-replaced = refl; not-dropped = refl })

  told-did : (x : Told Packet) → IfGiven (NamedBy p) x → IfGiven (KindBy (is_first (fields_of p))) x → IfRefused DropsNone x
      → ResultDid slots p (acted limit slots bytes p x)
  told-did (refused n) named kind q = quiet refl (refused-quiet n q)
  told-did (given y) named kind q = act-did y named kind

  pub acted-did : ResultDid slots p (acted limit slots bytes p (read_of limit p))
  acted-did = told-did (read_of limit p) (read_named limit p) (read-kind limit p) (read-drops-none limit p)
