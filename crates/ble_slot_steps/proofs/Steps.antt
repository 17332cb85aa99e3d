-- Laws of what a packet does to its stream's slots.
use Prim.Native.Nat.{ℕ, zero, suc, ◌+◌, ◌^◌, ◌≤◌, ◌<◌}
use native.Mathlib.Omega.{arith}
use mathlib.Core.Path.{◌≡◌, refl, sym, ap, ◌∙◌}
use mathlib.Core.Logic.{◌≢◌}
use mathlib.Core.List.{List, [], ◌∷◌}
use mathlib.Core.Bool.{Bool, true, false, cond, ◌||◌, false≢true}
use lib.ListN.{length, get_or, set}
use lib.Dec.{eqb}
use borrow.Author.Tests.{eqb-true, eqb-false, leb-false, not-true, not-false}
use Rattle.std.specs.Prelude.{Option, None, Some}
use Rattle.wire.specs.Those.{any}
use Rattle.wire.specs.declared.stream.Stream.{Stream}
use Rattle.wire.proofs.Tests.{and_left, and_right}
use Rattle.wire.proofs.Tables.{by-table}
use Rattle.ble_packet.specs.declared.reader.Head.{Head}
use Rattle.ble_packet.specs.declared.reader.Packet.{Packet}
use Rattle.ble_packet.specs.declared.reader.Packet.TheVariants.{First, Next, Ack, Nack}
use Rattle.ble_packet.specs.Reader.{head_in}
use Rattle.ble_packet.proofs.Headers.{bit-low}
use Rattle.ble_packet.proofs.Reading.{HeadLow, PayloadWithin}
use Rattle.ble_slot.specs.declared.Slot.{Slot}
use Rattle.ble_slot_steps.specs.declared.PayloadPlace.{PayloadPlace}
use Rattle.ble_slot.specs.Slot.{opens, idle, is_open, is_idle, lawful_slot, all_lawful, any_open, any_idle, distinct, slots_each, lane_start, lane_of}
use Rattle.ble_slot_steps.specs.Step.{Step, finish, hold, drop_by, first_step, off_total, lines, next_step, further, spot_where, open_spot, or_else, first_spot, act_of}
use Rattle.ble_slot_steps.specs.Fit.{InsidePart, Fit, ActFits, Own, ActOwns, Small}
use Rattle.ble_slot_steps.proofs.Each.{EachStep, first-each, next-each, at_each}
use Rattle.ble_slot.proofs.Lanes.{by-four, lane-other}
use Rattle.ble_slot.proofs.Slots.{OpenSlot, lawful-open, open-lawful, idle-lawful, all-at, any_at, any-set, unlike, head-other, alone_at}

-- ---- the slots of a stream

-- what a packet does is the same after a store at another stream's spot
pub act-other : (a t : Stream) (slots : List Slot) (spot : ℕ) (s : Slot) (x : Packet) → a ≢ t → spot < slots_each
    → act_of (lane_start t) (lane_of t (set slots (lane_start a + spot) s)) x ≡ act_of (lane_start t) (lane_of t slots) x
act-other a t slots spot s x d low = ap (λ (lane : List Slot). act_of (lane_start t) lane x) (lane-other a t slots spot s d low)

further-cond : (b : Bool) (o q : Option ℕ) → further (cond b o q) ≡ cond b (further o) (further q)
further-cond true o q = refl
further-cond false o q = refl

-- the first slot of four that passes a test
abbrev WhereFour : (Slot → Bool) → List Slot → Type 0
WhereFour test lane =
    spot_where test lane
    ≡ cond (test (get_or lane 0 idle)) (Some 0)
    (cond (test (get_or lane 1 idle)) (Some 1) (cond (test (get_or lane 2 idle)) (Some 2) (cond (test (get_or lane 3 idle)) (Some 3) None)))

pub where-four : (test : Slot → Bool) (lane : List Slot) → length lane ≡ slots_each → WhereFour test lane
where-four test = by-four (WhereFour test) (λ a b c d. simp further-cond)

-- ---- the spot that is found

abbrev is_some : Option ℕ → Bool
is_some None = false
is_some (Some spot) = true

-- a spot that is found is one of the list's, and its slot passes the test
pub record FoundSlot (test : Slot → Bool) (l : List Slot) (spot : ℕ) : Type 0 where
  pub below : spot < length l
  pub passes : test (get_or l spot idle) ≡ true

found-further : (test : Slot → Bool) (x : Slot) (l : List Slot) (spot : ℕ) (o : Option ℕ) → ((k : ℕ) → o ≡ Some k → FoundSlot test l k)
    → further o ≡ Some spot → FoundSlot test (x ∷ l) spot
found-further test x l spot None later e = absurd (false≢true (ap is_some e))
found-further test x l spot (Some k) later e =
    let f = later k refl in
    let same : suc k ≡ spot = cc in
    rw (← same) (record { below = omega (arith, f.below); passes = f.passes })

found-by : (test : Slot → Bool) (x : Slot) (l : List Slot) (spot : ℕ) (b : Bool) → test x ≡ b
    → ((k : ℕ) → spot_where test l ≡ Some k → FoundSlot test l k)
    → cond b (Some 0) (further (spot_where test l)) ≡ Some spot → FoundSlot test (x ∷ l) spot
found-by test x l spot true t later e =
    let same : 0 ≡ spot = cc in
    rw (← same) (record { below = omega arith; passes = t })
found-by test x l spot false t later e = found-further test x l spot (spot_where test l) later e

pub found : (test : Slot → Bool) (l : List Slot) (spot : ℕ) → spot_where test l ≡ Some spot → FoundSlot test l spot
found test [] spot e = absurd (false≢true (ap is_some e))
found test (x ∷ l) spot e = found-by test x l spot (test x) refl (found test l) e

-- where no slot is open with an id
where-none : (test : Slot → Bool) (x : Slot) (l : List Slot) (b : Bool) → test x ≡ b → spot_where test (x ∷ l) ≡ None
    → (test x ≡ false) × (spot_where test l ≡ None)
where-none test x l true t e = absurd (false≢true (sym (ap is_some (rw t at e))))
where-none test x l false t e = (t, further-none (spot_where test l) (rw t at e))
  where
    further-none : (o : Option ℕ) → further o ≡ None → o ≡ None
    further-none None e = refl
    further-none (Some k) e = absurd (false≢true (sym (ap is_some e)))

none_open : (id : ℕ) (l : List Slot) → spot_where (is_open id) l ≡ None → any_open id l ≡ false
none_open id [] e = refl
none_open id (x ∷ l) e =
    let f = where-none (is_open id) x l (is_open id x) refl e in
    rw f.0 (none_open id l f.1)

-- the spot of a first packet: where its id is open, or an idle slot, and then the id is open nowhere
pub data FirstSlot (lane : List Slot) (id : ℕ) : ℕ → Type 0 where
  again : {spot : ℕ} → FoundSlot (is_open id) lane spot → FirstSlot lane id spot
  fresh : {spot : ℕ} → FoundSlot is_idle lane spot → any_open id lane ≡ false → FirstSlot lane id spot

chosen_by : (lane : List Slot) (id spot : ℕ) (o : Option ℕ) → open_spot lane id ≡ o → or_else o (spot_where is_idle lane) ≡ Some spot
    → FirstSlot lane id spot
chosen_by lane id spot None eo e = fresh (found is_idle lane spot e) (none_open id lane eo)
chosen_by lane id spot (Some j) eo e = again (found (is_open id) lane spot (eo ∙ e))

pub chosen : (lane : List Slot) (id spot : ℕ) → first_spot lane id ≡ Some spot → FirstSlot lane id spot
chosen lane id spot e = chosen_by lane id spot (open_spot lane id) refl e

pub chosen-low : (lane : List Slot) (id spot : ℕ) → FirstSlot lane id spot → spot < length lane
chosen-low lane id spot (again f) = f.below
chosen-low lane id spot (fresh f n) = f.below

-- as the code has them
pub chosen-below : (lane : List Slot) (id spot : ℕ) → length lane ≡ slots_each → Some spot ≡ first_spot lane id → spot < slots_each
chosen-below lane id spot n e = omega (arith, n, chosen-low lane id spot (chosen lane id spot (sym e)))

pub open-below : (lane : List Slot) (id spot : ℕ) → length lane ≡ slots_each → Some spot ≡ open_spot lane id → spot < slots_each
open-below lane id spot n e = omega (arith, n, (found (is_open id) lane spot (sym e)).below)

-- ---- each step fits

-- at a spot among its stream's slots, and an index of the row
module _ (limit k spot at : ℕ) (low : spot < slots_each) where
  drop-fits : (n : ℕ) → Fit limit k spot (drop_by n)
  unfolding drop_by
  drop-fits n = record { within = low; inside = (omega arith, omega arith); left = idle-lawful limit }

  finish-fits : (h : Head) (wanted : Bool) (total : ℕ) (replaced : Bool) (payload : PayloadPlace) → InsidePart limit k payload
      → Fit limit k spot (finish at h wanted total replaced payload)
  unfolding finish
  finish-fits h wanted total replaced payload i = record { within = low; inside = i; left = idle-lawful limit }

  hold-fits : (h : Head) (wanted : Bool) (total : ℕ) (replaced : Bool) (payload : PayloadPlace) → InsidePart limit k payload → HeadLow h → total ≤ limit
      → 1 ≤ payload.at + payload.len → payload.at + payload.len < total → Fit limit k spot (hold at h wanted total replaced payload)
  unfolding hold
  hold-fits h wanted total replaced payload i head t sent below =
      record {
        within = low;
        inside = i;
        left =
            open-lawful limit _ refl
            (record { id-low = head.0; sequence-low = head.1; wanted-low = bit-low wanted; total-low = t; some-held = sent; held_below = below });
      }

  some-sent : (len total : ℕ) → (len ≡ 0 → total ≡ 0) → (len ≡ total → ⊥) → 1 ≤ len
  some-sent zero total z d = absurd (d (sym (z refl)))
  some-sent (suc len) total z d = omega arith

  first_fits : (s : Slot) (h : Head) (ack : Bool) (total start len : ℕ) (b : Bool) → eqb len total ≡ b
      → PayloadWithin limit k (First h ack total start len) → Fit limit k spot (first_step at s h ack total start len)
  unfolding first_step
  first_fits s h ack total start len true e w = rw e (finish-fits h _ total _ _ (omega arith, omega arith))
  first_fits s h ack total start len false e w =
      let sent = some-sent len total w.3 (eqb-false len total e) in
      let d : (len ≡ total → ⊥) = eqb-false len total e in
      rw e (hold-fits h _ total _ _ (omega arith, omega arith) w.4 w.2 (omega arith) (omega arith))

  go-on-fits : (s : Slot) (h : Head) (wanted going last : Bool) (start len : ℕ) → OpenSlot limit s → HeadLow h → start + len ≤ k
      → off_total last (s.held + len) s.total ≡ false
      → Fit limit k spot
      (cond last (finish at h wanted s.total false (record { at = s.held; start = start; len = len }))
      (hold at h going s.total false (record { at = s.held; start = start; len = len })))
  go-on-fits s h wanted going true start len o head w t =
      let e : s.held + len ≡ s.total = eqb-true (s.held + len) s.total (not-false _ t) in
      finish-fits h wanted s.total false _ (w, omega arith)
  go-on-fits s h wanted going false start len o head w t =
      let e : s.held + len < s.total = leb-false s.total (s.held + len) t in
      hold-fits h going s.total false _ (w, omega arith) head o.total-low (omega arith) e

  next_fits : (s : Slot) (h : Head) (ack last : Bool) (start len : ℕ) → lawful_slot limit s ≡ true → is_open h.id s ≡ true
      → PayloadWithin limit k (Next h ack last start len) → Fit limit k spot (next_step at s h ack last start len)
  unfolding next_step
  next_fits s h ack last start len law known w =
      by-table (Fit limit k spot) (lines s h last len) drop_by _ drop-fits (λ e.
      go-on-fits s h _ _ last start len (lawful-open limit s law (and_left (opens s) _ known)) w.1 w.0 e.1.0)

-- ---- what a packet does fits

-- a packet that was read, on the lawful slots of its stream
pub act-fits : (limit k first : ℕ) (lane : List Slot) (x : Packet) → length lane ≤ slots_each → all_lawful limit lane ≡ true → PayloadWithin limit k x
    → ActFits limit k (act_of first lane x)
act-fits limit k first lane (First h ack total start len) short law w =
    at_each (ActFits limit k) _ (λ spot. first_step (first + spot) (get_or lane spot idle) h ack total start len) (first_spot lane h.id) tt (λ spot e.
    first_fits limit k spot (first + spot) (omega (arith, chosen-low lane h.id spot (chosen lane h.id spot e))) (get_or lane spot idle) h ack total start len (eqb len total) refl w)
act-fits limit k first lane (Next h ack last start len) short law w =
    at_each (ActFits limit k) _ (λ spot. next_step (first + spot) (get_or lane spot idle) h ack last start len) (open_spot lane h.id) tt (λ spot e.
    let f = found (is_open h.id) lane spot e in
    next_fits limit k spot (first + spot) (omega (arith, f.below)) (get_or lane spot idle) h ack last start len (all-at limit lane spot law) f.passes w)
act-fits limit k first lane (Ack h) short law w = tt
act-fits limit k first lane (Nack h) short law w = tt

-- ---- what a packet does, it does to its own slot

-- an id that is left open is the packet's
abbrev Names : ℕ → Step → Type 0
Names id s = (i : ℕ) → is_open i s.slot ≡ true → i ≡ id

each-names : (h : Head) → EachStep h (Names h.id)
unfolding finish hold drop_by
each-names h =
    record {
      finished = λ at wanted total replaced payload i o. absurd (false≢true o);
      held = λ at wanted total replaced payload i o. sym (eqb-true h.id i o);
      ten = λ i o. absurd (false≢true o);
      eleven = λ i o. absurd (false≢true o);
    }

-- a step at a spot where the packet's id is open, or at an idle slot where it is open nowhere
own-again : (lane : List Slot) (id spot : ℕ) (s : Step) → distinct lane ≡ true → Names id s → FoundSlot (is_open id) lane spot → Own id lane spot s
own-again lane id spot s law names f =
    record {
      alone = λ i o. rw (names i o) (alone_at id lane spot law f.passes);
      was = λ o. eqb-true (get_or lane spot idle).id id (and_right (opens (get_or lane spot idle)) _ f.passes);
    }

own-chosen : (lane : List Slot) (id spot : ℕ) (s : Step) → distinct lane ≡ true → Names id s → FirstSlot lane id spot → Own id lane spot s
own-chosen lane id spot s law names (again f) = own-again lane id spot s law names f
own-chosen lane id spot s law names (fresh f n) =
    record {
      alone = λ i o. rw (names i o) (any-set id lane spot idle n refl);
      was = λ o. absurd (false≢true (sym (not-true (opens (get_or lane spot idle)) f.passes) ∙ o));
    }

pub act-owns : (first : ℕ) (lane : List Slot) (x : Packet) → distinct lane ≡ true → ActOwns (head_in x).id lane (act_of first lane x)
act-owns first lane (First h ack total start len) law =
    at_each (ActOwns h.id lane) _ (λ spot. first_step (first + spot) (get_or lane spot idle) h ack total start len) (first_spot lane h.id) tt (λ spot e.
    own-chosen lane h.id spot _ law (first-each (Names h.id) (each-names h) (first + spot) (get_or lane spot idle) ack total start len) (chosen lane h.id spot e))
act-owns first lane (Next h ack last start len) law =
    at_each (ActOwns h.id lane) _ (λ spot. next_step (first + spot) (get_or lane spot idle) h ack last start len) (open_spot lane h.id) tt (λ spot e.
    own-again lane h.id spot _ law (next-each (Names h.id) (each-names h) (first + spot) (get_or lane spot idle) ack last start len) (found (is_open h.id) lane spot e))
act-owns first lane (Ack h) law = tt
act-owns first lane (Nack h) law = tt

-- ---- a spot that is to be found

-- the only slot that is open with an id
pub open-found : (id : ℕ) (l : List Slot) (i : ℕ) → distinct l ≡ true → is_open id (get_or l i idle) ≡ true → open_spot l id ≡ Some i
open-found id [] i e o = absurd (false≢true o)
open-found id (x ∷ l) zero e o = rw o
open-found id (x ∷ l) (suc i) e o =
    rw (head-other id x l (is_open id x) refl (and_left (unlike x l) _ e) (any_at id l i o))
    (ap further (open-found id l i (and_right (unlike x l) _ e) o))

-- some spot
pub record SpotIn (o : Option ℕ) : Type 0 where
  pub spot : ℕ
  pub is : o ≡ Some spot

some-further : (o : Option ℕ) → SpotIn o → SpotIn (further o)
some-further o k = record { spot = suc k.spot; is = ap further k.is }

some-by : (test : Slot → Bool) (x : Slot) (l : List Slot) (b : Bool) → test x ≡ b → (b ≡ false → SpotIn (spot_where test l)) → SpotIn (spot_where test (x ∷ l))
some-by test x l true e later = record { spot = 0; is = rw e }
some-by test x l false e later = rw e (some-further (spot_where test l) (later refl))

some-where : (test : Slot → Bool) (l : List Slot) → any test l ≡ true → SpotIn (spot_where test l)
some-where test [] e = absurd (false≢true e)
some-where test (x ∷ l) e = some-by test x l (test x) refl (λ n. some-where test l (rw n at e))

or-first : (o q : Option ℕ) → SpotIn o → SpotIn (or_else o q)
or-first o q k = record { spot = k.spot; is = ap (λ (x : Option ℕ). or_else x q) k.is }

or-else : (o q : Option ℕ) → SpotIn q → SpotIn (or_else o q)
or-else None q k = k
or-else (Some spot) q k = record { spot = spot; is = refl }

first_by : (lane : List Slot) (id : ℕ) (b : Bool) → any_open id lane ≡ b → (any_open id lane || any_idle lane) ≡ true → SpotIn (first_spot lane id)
first_by lane id true e h = or-first (open_spot lane id) (spot_where is_idle lane) (some-where (is_open id) lane e)
first_by lane id false e h = or-else (open_spot lane id) (spot_where is_idle lane) (some-where is_idle lane (rw e at h))

-- a first packet finds a slot where its id is open or one is idle
pub first_found : (lane : List Slot) (id : ℕ) → (any_open id lane || any_idle lane) ≡ true → SpotIn (first_spot lane id)
first_found lane id h = first_by lane id (any_open id lane) refl h

-- numbers of a packet that was read
pub small : (limit k : ℕ) (x : Packet) → limit ≤ 65535 → k < 2 ^ 63 → PayloadWithin limit k x → Small x
small limit k (First h ack total start len) l n w = (w.1, omega arith)
small limit k (Next h ack last start len) l n w = omega arith
small limit k (Ack h) l n w = tt
small limit k (Nack h) l n w = tt
