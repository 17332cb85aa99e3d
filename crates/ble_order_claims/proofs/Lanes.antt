-- Packets of different streams may come in either order: each acts on its own stream's slots, and what they write lies apart.
use Prim.Native.Nat.{ℕ, suc, ◌+◌, ◌*◌, ◌≤◌, ◌<◌}
use native.Mathlib.Omega.{arith}
use native.Mathlib.Nat.{suc-mul, mul-le-mul_right}
use mathlib.Core.Path.{◌≡◌, refl, sym, ap, ◌∙◌}
use mathlib.Core.Logic.{◌≢◌, inl, inr}
use mathlib.Core.List.{List, [], ◌∷◌, ◌++◌}
use mathlib.Core.Bool.{Bool, true, false}
use lib.ListN.{length, set}
use lib.Seq.{sets, set_comm}
use lib.Dec.{ltb}
use borrow.Author.Tests.{eq-eqb, ne_eqb, eqb-true, ltb-true, ltb-false}
use Rattle.wire.specs.Limit.{limit_fits}
use Rattle.wire.specs.Told.{Told, given, refused}
use Rattle.wire.specs.declared.stream.Stream.{Stream}
use Rattle.wire.specs.declared.stream.Stream.TheVariants.{Control, Ota, Alexa}
use Rattle.wire.proofs.Streams.{other-stream}
use Rattle.ble_packet.specs.declared.reader.Packet.{Packet}
use Rattle.ble_packet.specs.Reader.{head_in}
use Rattle.ble_packet.proofs.Headers.{stream-back}
use Rattle.ble_packet.proofs.Reading.{LinesPass, IfGiven}
use Rattle.ble_slot.specs.declared.Slot.{Slot}
use Rattle.ble_slot.specs.Slot.{opens, is_open, any_open, distinct, lane_start, lane_of, lawful_slot, all_lawful}
use Rattle.ble_slot_steps.specs.Step.{Act, still, step}
use Rattle.ble_slot_steps.specs.Fit.{ActFits}
use Rattle.ble_slot.proofs.Slots.{open-lawful, idle-lawful, unlike, lawful-holds}
use Rattle.ble_slot.proofs.Lanes.{spot-other}
use Rattle.ble_slot_steps.proofs.Steps.{act-other}
use Rattle.ble_receiver.specs.Buffer.{part_start, payload_bytes}
use Rattle.ble_receiver.specs.Receiver.{Result, act_in, acted, PacketCall, answered, read_in, accept_of}
use Rattle.ble_receiver.proofs.Accepting.{SlotsFit, accept-ready, limit-refused, in-passes, ready-next, in-fits, payload-length}
use Rattle.ble_order_claims.specs.Lanes.{Both, both_of, turned, stream_field, HandedPair, EitherOrder, InRules, FourInRules, four, HandedAll, PartsApart}

-- ---- runs that lie apart

-- a byte before a run
set-sets : (l : List ℕ) (i v j : ℕ) (run : List ℕ) → i < j → sets (set l i v) j run ≡ set (sets l j run) i v
set-sets l i v j [] h = refl
set-sets l i v j (x ∷ run) h =
    ap (λ (z : List ℕ). sets z (suc j) run) (set_comm l i j v x (λ e. omega arith)) ∙ set-sets (set l j x) i v (suc j) run (omega arith)

-- a run before a run
sets-sets : (l : List ℕ) (i : ℕ) (xs : List ℕ) (j : ℕ) (ys : List ℕ) → i + length xs ≤ j → sets (sets l i xs) j ys ≡ sets (sets l j ys) i xs
sets-sets l i [] j ys h = refl
sets-sets l i (x ∷ xs) j ys h =
    sets-sets (set l i x) (suc i) xs j ys (omega arith) ∙ ap (λ (z : List ℕ). sets z (suc i) xs) (set-sets l i x j ys (omega arith))

apart_by : (limit i j at bt : ℕ) (bytes xs ys : List ℕ) (b : Bool) → ltb i j ≡ b → i ≢ j → at + length xs ≤ limit → bt + length ys ≤ limit
    → sets (sets bytes (part_start limit i + at) xs) (part_start limit j + bt) ys
    ≡ sets (sets bytes (part_start limit j + bt) ys) (part_start limit i + at) xs
apart_by limit i j at bt bytes xs ys true e other hx hy =
    let u : suc i * limit ≤ j * limit = mul-le-mul_right limit (ltb-true i j e) in
    sets-sets bytes (i * limit + at) xs (j * limit + bt) ys (omega (arith, suc-mul i limit))
apart_by limit i j at bt bytes xs ys false e other hx hy =
    let b : j ≤ i = ltb-false i j e in
    let u : suc j * limit ≤ i * limit = mul-le-mul_right limit (omega arith) in
    sym (sets-sets bytes (j * limit + bt) ys (i * limit + at) xs (omega (arith, suc-mul j limit)))

pub parts-apart : PartsApart
parts-apart limit i j at bt bytes xs ys other hx hy = apart_by limit i j at bt bytes xs ys (ltb i j) refl other hx hy

-- ---- two packets, by what was read of them

abbrev both_by : ℕ → List Slot → List ℕ → PacketCall → PacketCall → Told Packet → Told Packet → Both
both_by limit slots bytes c d t u =
    let r : Result = acted limit slots bytes c.packet t in
    let s : Result = acted limit r.slots r.bytes d.packet u in
    record {
      first = r.told;
      second = s.told;
      slots = s.slots;
      bytes = s.bytes;
      first_out = answered c.sequence r.told c.out;
      second-out = answered d.sequence s.told d.out;
    }

both_read : (limit : ℕ) (slots : List Slot) (bytes : List ℕ) (c d : PacketCall) → SlotsFit limit slots bytes
    → both_of limit slots bytes c d ≡ both_by limit slots bytes c d (read_in limit c) (read_in limit d)
both_read limit slots bytes c d r =
    let later = accept-ready limit (accept_of limit slots bytes c).slots (accept_of limit slots bytes c).bytes d (ready-next limit slots bytes c r) in
    rw (later, accept-ready limit slots bytes c r)

-- packets of different streams, by what each does to its own stream's slots
module _ (limit : ℕ) (slots : List Slot) (bytes : List ℕ) (c d : PacketCall) (x y : Packet) (other : (head_in x).stream ≢ (head_in y).stream) where
  abbrev a : Stream
  a = (head_in x).stream

  abbrev b : Stream
  b = (head_in y).stream

  turned-act : (ax ay : Act) → act_in slots x ≡ ax → act_in slots y ≡ ay → ActFits limit (length c.packet) ax → ActFits limit (length d.packet) ay
      → both_by limit slots bytes c d (given x) (given y) ≡ turned (both_by limit slots bytes d c (given y) (given x))
  turned-act (still t) (still u) ex ey fx fy = rw (ex, ey, ex)
  turned-act (still t) (step j s) ex ey fx fy = rw (ex, ey, act-other b a slots j s.slot x (λ e. other (sym e)) fy.within ∙ ex)
  turned-act (step i s) (still u) ex ey fx fy = rw (ex, ey, act-other a b slots i s.slot y other fx.within ∙ ey, ex)
  turned-act (step i s) (step j t) ex ey fx fy =
      let apart : lane_start a + i ≢ lane_start b + j = spot-other a b i j other fx.within fy.within in
      rw (
        ex,
        ey,
        act-other a b slots i s.slot y other fx.within ∙ ey,
        act-other b a slots j t.slot x (λ e. other (sym e)) fy.within ∙ ex,
        set_comm slots (lane_start a + i) (lane_start b + j) s.slot t.slot apart,
        parts-apart limit (lane_start a + i) (lane_start b + j) s.payload.at t.payload.at bytes (payload_bytes c.packet s.payload) (payload_bytes d.packet t.payload) apart
            (payload-length limit (length c.packet) c.packet s.payload fx.inside)
            (payload-length limit (length d.packet) d.packet t.payload fy.inside),
      )

turned-read : (limit m n : ℕ) (slots : List Slot) (bytes : List ℕ) (c d : PacketCall) (t u : Told Packet) → SlotsFit limit slots bytes → m ≢ n
    → IfGiven (LinesPass limit (length c.packet) m) t → IfGiven (LinesPass limit (length d.packet) n) u
    → both_by limit slots bytes c d t u ≡ turned (both_by limit slots bytes d c u t)
turned-read limit m n slots bytes c d (refused a) (refused b) r e o k = refl
turned-read limit m n slots bytes c d (refused a) (given y) r e o k = refl
turned-read limit m n slots bytes c d (given x) (refused b) r e o k = refl
turned-read limit m n slots bytes c d (given x) (given y) r e o k =
    turned-act limit slots bytes c d x y (λ same. other-stream m n o.known k.known e (sym o.named ∙ same ∙ k.named)) (act_in slots x) (act_in slots y) refl refl
    (in-fits limit (length c.packet) m slots x r.law o) (in-fits limit (length d.packet) n slots y r.law k)

-- with a limit out of its range both are refused by 1, and leave all
order-by : (limit : ℕ) (slots : List Slot) (bytes : List ℕ) (c d : PacketCall) (b : Bool) → limit_fits limit ≡ b → HandedPair limit slots bytes c d
    → both_of limit slots bytes c d ≡ turned (both_of limit slots bytes d c)
order-by limit slots bytes c d false e h =
    rw (limit-refused limit slots bytes c e, limit-refused limit slots bytes d e, limit-refused limit slots bytes c e)
order-by limit slots bytes c d true e h =
    let r : SlotsFit limit slots bytes = record { range = e; law = h.law; size = h.size } in
    both_read limit slots bytes c d r
    ∙ turned-read limit (stream_field c.packet) (stream_field d.packet) slots bytes c d (read_in limit c) (read_in limit d) r h.streams (in-passes limit c) (in-passes limit d)
    ∙ ap turned (sym (both_read limit slots bytes d c r))

pub either_order : EitherOrder
either_order limit slots bytes c d h = order-by limit slots bytes c d (limit_fits limit) refl h

-- ---- what is asked for

in-rules : (limit : ℕ) (s : Slot) → InRules limit s → lawful_slot limit s ≡ true
in-rules limit s (inl e) = rw e (idle-lawful limit)
in-rules limit s (inr o) =
    open-lawful limit s (eq-eqb s.opened 1 o.0)
    (record { id-low = omega arith; sequence-low = omega arith; wanted-low = omega arith; total-low = o.4; some-held = o.5; held_below = o.6 })

pair-by : (x y : Slot) (b : Bool) → opens y ≡ b → (y.opened ≡ 1 → x.id ≢ y.id) → is_open x.id y ≡ false
pair-by x y false e h = rw e
pair-by x y true e h = rw (e, ne_eqb y.id x.id (λ same. h (eqb-true y.opened 1 e) (sym same)))

unlike-by : (x : Slot) (l : List Slot) (b : Bool) → opens x ≡ b → (opens x ≡ true → any_open x.id l ≡ false) → unlike x l ≡ true
unlike-by x l false e h = rw e
unlike-by x l true e h = rw (e, h e)

module _ (limit : ℕ) (f : ℕ → Slot) (r : FourInRules limit f) where
  pair : (i j : ℕ) → i < j → j < 4 → opens (f i) ≡ true → is_open (f i).id (f j) ≡ false
  pair i j l m o = pair-by (f i) (f j) (opens (f j)) refl (r.ids i j l m (eqb-true (f i).opened 1 o))

  distinct-four : distinct (four f) ≡ true
  distinct-four =
      let a : unlike (f 0) (f 1 ∷ f 2 ∷ f 3 ∷ []) ≡ true
      = unlike-by (f 0) (f 1 ∷ f 2 ∷ f 3 ∷ []) (opens (f 0)) refl (λ o.
      rw (pair 0 1 (omega arith) (omega arith) o, pair 0 2 (omega arith) (omega arith) o, pair 0 3 (omega arith) (omega arith) o)) in
      let b : unlike (f 1) (f 2 ∷ f 3 ∷ []) ≡ true
      = unlike-by (f 1) (f 2 ∷ f 3 ∷ []) (opens (f 1)) refl (λ o. rw (pair 1 2 (omega arith) (omega arith) o, pair 1 3 (omega arith) (omega arith) o)) in
      let c : unlike (f 2) (f 3 ∷ []) ≡ true
      = unlike-by (f 2) (f 3 ∷ []) (opens (f 2)) refl (λ o. rw (pair 2 3 (omega arith) (omega arith) o)) in
      let d : unlike (f 3) [] ≡ true = unlike-by (f 3) [] (opens (f 3)) refl (λ o. refl) in
      rw (a, b, c, d)

  all-four : (l : List Slot) → all_lawful limit l ≡ true → all_lawful limit (four f ++ l) ≡ true
  all-four l e =
      let each : (i : ℕ) → i < 4 → lawful_slot limit (f i) ≡ true = λ i low. in-rules limit (f i) (r.each i low) in
      rw (each 0 (omega arith), each 1 (omega arith), each 2 (omega arith), each 3 (omega arith)) e

lanes-distinct : (limit : ℕ) (control ota alexa : ℕ → Slot) → FourInRules limit control → FourInRules limit ota → FourInRules limit alexa → (t : Stream)
    → distinct (lane_of t (four control ++ (four ota ++ four alexa))) ≡ true
lanes-distinct limit control ota alexa c o a Control = distinct-four limit control c
lanes-distinct limit control ota alexa c o a Ota = distinct-four limit ota o
lanes-distinct limit control ota alexa c o a Alexa = distinct-four limit alexa a

pub handed-all : HandedAll
handed-all limit control ota alexa bytes m i p n j q sa sb x y c o a size li lj d =
    record {
      law =
          lawful-holds limit (four control ++ (four ota ++ four alexa))
          (record {
            count = refl;
            each = all-four limit control c (four ota ++ four alexa) (all-four limit ota o (four alexa) (all-four limit alexa a [] refl));
            apart = lanes-distinct limit control ota alexa c o a;
          });
      size = size;
      filled = (omega arith, omega arith);
      streams = λ e. d (sym (stream-back m i (omega arith)) ∙ e ∙ stream-back n j (omega arith));
    }
