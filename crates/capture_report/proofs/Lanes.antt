-- What a packet does to the slots of each stream: the laws of one turn.
use Prim.Native.Nat.{ℕ, ◌+◌, ◌<◌}
use native.Mathlib.Omega.{arith}
use mathlib.Core.Path.{◌≡◌, refl, sym, ap, subst, ◌∙◌}
use mathlib.Core.Logic.{◌≢◌}
use mathlib.Core.List.{List, [], ◌∷◌}
use mathlib.Core.Bool.{Bool, true, false, not, ◌&&◌, ◌||◌}
use lib.ListN.{get_or, set, drop, length-take}
use lib.Dec.{eqb}
use borrow.Author.Tests.{eq-eqb, ne_eqb, eqb-true, eqb-false}
use Rattle.wire.specs.Bytes.{bit}
use Rattle.wire.specs.declared.stream.Stream.{Stream}
use Rattle.wire.specs.Stream.{stream_number, stream_of}
use Rattle.wire.proofs.Streams.{stream-back}
use Rattle.wire.proofs.Tests.{or-false}
use Rattle.ble_packet.specs.Header.{first_byte, is_of}
use Rattle.ble_packet.specs.Reader.{fields_of, is_first}
use Rattle.ble_slot.specs.declared.Slot.{Slot}
use Rattle.ble_slot.specs.Slot.{opens, idle, slots_each, lane_start, lane_of, is_open, any_open}
use Rattle.ble_slot.proofs.Slots.{lawful-open, all-at, LawfulRow, lawful-lane}
use Rattle.ble_slot.proofs.Lanes.{lane-other, lane-set}
use Rattle.capture_report.specs.Costs.{Heard, finishes, replaces, drops, byte_zero, begins, leaves_open, closes, closed_in, sum_of}
use Rattle.capture_report.proofs.Counting.{sum-set, sum_same}
use Rattle.capture_report.proofs.Moving.{SlotFlow, SlotMove, Quiet, Did, quiet, moved}

-- ---- tests

and_no : (a b : Bool) → b ≡ false → bit (a && b) ≡ 0
and_no true b e = rw e
and_no false b e = refl

same_number : (t s : Stream) → eqb (stream_number t) (stream_number s) ≡ true → t ≡ s
same_number t s e = sym (stream-back t) ∙ ap stream_of (eqb-true (stream_number t) (stream_number s) e) ∙ stream-back s

-- ---- packets that close a transaction

closed-by : (first : ℕ) (h : Heard) (hs : List Heard) (b c : Bool) → closes h ≡ b → eqb (byte_zero h) first ≡ c
    → closed_in first (h ∷ hs) ≡ ((b && c) || closed_in first hs)
closed-by first h hs b c e d =
    ap (λ (z : Bool). (z && eqb (byte_zero h) first) || closed_in first hs) e ∙ ap (λ (z : Bool). (b && z) || closed_in first hs) d

closed-quiet : (first : ℕ) (h : Heard) (hs : List Heard) → closes h ≡ false → closed_in first (h ∷ hs) ≡ closed_in first hs
closed-quiet first h hs e = closed-by first h hs false (eqb (byte_zero h) first) e refl

closed-other : (first : ℕ) (h : Heard) (hs : List Heard) (b : Bool) → closes h ≡ b → eqb (byte_zero h) first ≡ false
    → closed_in first (h ∷ hs) ≡ closed_in first hs
closed-other first h hs true e d = closed-by first h hs true false e d
closed-other first h hs false e d = closed-by first h hs false false e d

-- ---- weights of a slot

abbrev pub open_weight : Slot → ℕ
open_weight x = bit (opens x)

-- open, and no packet still to come closes it
abbrev pub kept_weight : Stream → List Heard → Slot → ℕ
kept_weight s hs x = bit (opens x && not (closed_in (first_byte (stream_number s) x.id) hs))

module _ (s : Stream) (h : Heard) (hs : List Heard) where
  weight-by : (y : Slot) (o : Bool) → opens y ≡ o
      → (o ≡ true → closed_in (first_byte (stream_number s) y.id) (h ∷ hs) ≡ closed_in (first_byte (stream_number s) y.id) hs)
      → kept_weight s (h ∷ hs) y ≡ kept_weight s hs y
  weight-by y true e f = ap (λ (z : Bool). bit (opens y && not z)) (f refl)
  weight-by y false e f = rw e

  quiet_same : (l : List Slot) → closes h ≡ false → sum_of (kept_weight s (h ∷ hs)) l ≡ sum_of (kept_weight s hs) l
  quiet_same l e =
      sum_same (kept_weight s (h ∷ hs)) (kept_weight s hs) idle l (λ i u.
      weight-by (get_or l i idle) (opens (get_or l i idle)) refl (λ o. closed-quiet (first_byte (stream_number s) (get_or l i idle).id) h hs e))

  -- slots that are not open with the packet's id
  others_same : (id : ℕ) → byte_zero h ≡ first_byte (stream_number s) id → (l : List Slot) → any_open id l ≡ false
      → sum_of (kept_weight s (h ∷ hs)) l ≡ sum_of (kept_weight s hs) l
  others_same id z [] e = refl
  others_same id z (y ∷ l) e =
      let n : is_open id y ≡ false = (or-false (is_open id y) (any_open id l) e).0 in
      let later = others_same id z l (or-false (is_open id y) (any_open id l) e).1 in
      let here : kept_weight s (h ∷ hs) y ≡ kept_weight s hs y
      = weight-by y (opens y) refl (λ o.
      let d : eqb y.id id ≡ false = ap (λ (b : Bool). b && eqb y.id id) (sym o) ∙ n in
      let v : (y.id ≡ id → ⊥) = eqb-false y.id id d in
      closed-other (first_byte (stream_number s) y.id) h hs (closes h) refl (ne_eqb (byte_zero h) (first_byte (stream_number s) y.id) (λ q. v (omega (arith, q, z))))) in
      ap (λ (n : ℕ). n + sum_of (kept_weight s (h ∷ hs)) l) here ∙ ap (λ (n : ℕ). kept_weight s hs y + n) later

  -- the slot of the step
  kept-closed : (gs : List Heard) (x : Slot) → opens x ≡ false → kept_weight s gs x ≡ 0
  kept-closed gs x e = ap (λ (o : Bool). bit (o && not (closed_in (first_byte (stream_number s) x.id) gs))) e

  module _ (id : ℕ) (z : byte_zero h ≡ first_byte (stream_number s) id) where
    kept-open : (gs : List Heard) (x : Slot) → opens x ≡ true → x.id ≡ id → kept_weight s gs x ≡ bit (not (closed_in (byte_zero h) gs))
    kept-open gs x e n =
        ap (λ (o : Bool). bit (o && not (closed_in (first_byte (stream_number s) x.id) gs))) e
        ∙ ap (λ (i : ℕ). bit (not (closed_in i gs))) (ap (first_byte (stream_number s)) n ∙ sym z)

    old-closed : (y : Slot) (o : Bool) → opens y ≡ o → (opens y ≡ true → y.id ≡ id) → closes h ≡ true → kept_weight s (h ∷ hs) y ≡ 0
    old-closed y true o w e =
        kept-open (h ∷ hs) y o (w o)
        ∙ ap (λ (b : Bool). bit (not b)) (closed-by (byte_zero h) h hs true true e (eq-eqb (byte_zero h) (byte_zero h) refl))
    old-closed y false o w e = kept-closed (h ∷ hs) y o

    new_by : (x : Slot) (b : Bool) → leaves_open h ≡ b → opens x ≡ leaves_open h → (opens x ≡ true → x.id ≡ id)
        → kept_weight s hs x ≡ bit (leaves_open h && not (closed_in (byte_zero h) hs))
    new_by x true e o n =
        kept-open hs x (o ∙ e) (n (o ∙ e)) ∙ sym (ap (λ (b : Bool). bit (b && not (closed_in (byte_zero h) hs))) e)
    new_by x false e o n = kept-closed hs x (o ∙ e) ∙ sym (ap (λ (b : Bool). bit (b && not (closed_in (byte_zero h) hs))) e)

    own-by : (x y : Slot) (b : Bool) → closes h ≡ b → SlotFlow id y x h → (opens y ≡ true → y.id ≡ id)
        → kept_weight s hs x ≡ bit (leaves_open h && not (closed_in (byte_zero h) hs)) + kept_weight s (h ∷ hs) y
    own-by x y true e f w =
        let new = new_by x (leaves_open h) refl (f.anew e) f.named in
        let old = old-closed y (opens y) refl w e in
        omega (arith, new, old)
    own-by x y false e f w =
        let on = f.goes_on e in
        let new = kept-open hs x on.0 (f.named on.0) in
        let old : kept_weight s (h ∷ hs) y ≡ bit (not (closed_in (byte_zero h) hs))
        = kept-open (h ∷ hs) y on.1 (w on.1) ∙ ap (λ (b : Bool). bit (not b)) (closed-quiet (byte_zero h) h hs e) in
        let none : bit (leaves_open h && not (closed_in (byte_zero h) hs)) ≡ 0
        = ap (λ (b : Bool). bit ((b && not (finishes h.told)) && not (closed_in (byte_zero h) hs))) (or-false (begins h) _ e).0 in
        omega (arith, new, old, none)

-- ---- one turn

-- what a test of the packet counts for a stream
abbrev pub counts : Stream → Heard → Bool → ℕ
counts s h b = bit (is_of (stream_number s) h.packet && b)

abbrev pub open_sum : Stream → List Slot → ℕ
open_sum s slots = sum_of open_weight (lane_of s slots)

abbrev pub kept_sum : Stream → List Slot → List Heard → ℕ
kept_sum s slots hs = sum_of (kept_weight s hs) (lane_of s slots)

-- open slots: those before and those that begin are finished, replaced, dropped or open
abbrev pub TurnFlows : Stream → List Slot → List Slot → Heard → Type 0
TurnFlows s slots after h =
    open_sum s after + (counts s h (finishes h.told) + counts s h (replaces h.told) + counts s h (drops h.told))
    ≡ open_sum s slots + counts s h (begins h)

-- open slots that nothing closes later: those before that the packet does not close, and its own
abbrev pub TurnKeeps : Stream → List Slot → List Slot → Heard → List Heard → Type 0
TurnKeeps s slots after h hs =
    kept_sum s after hs ≡ counts s h (leaves_open h && not (closed_in (byte_zero h) hs)) + kept_sum s slots (h ∷ hs)

module _ (limit : ℕ) (slots : List Slot) (law : LawfulRow limit slots) where
  module _ (h : Heard) (t : Stream) (spot : ℕ) (x : Slot) (m : SlotMove t slots spot x h) where
    abbrev after : List Slot
    after = set slots (lane_start t + spot) x

    low : spot < slots_each
    low = let n = length-take slots_each (drop (lane_start t) slots) in omega (arith, n, m.below)

    mine : is_of (stream_number t) h.packet ≡ true
    mine = m.head.of t ∙ eq-eqb (stream_number t) (stream_number t) refl

    lane-is : lane_of t after ≡ set (lane_of t slots) spot x
    lane-is = lane-set t slots spot x low

    flows-own : TurnFlows t slots after h
    flows-own =
        let a : open_sum t after ≡ sum_of open_weight (set (lane_of t slots) spot x) = ap (sum_of open_weight) lane-is in
        let b = sum-set open_weight (lane_of t slots) spot x idle m.below in
        rw mine (omega (arith, a, b, m.flow.flow))

    keeps-own : (hs : List Heard) → TurnKeeps t slots after h hs
    keeps-own hs =
        let a : kept_sum t after hs ≡ sum_of (kept_weight t hs) (set (lane_of t slots) spot x) = ap (sum_of (kept_weight t hs)) lane-is in
        let b = sum-set (kept_weight t hs) (lane_of t slots) spot x idle m.below in
        let c = sum-set (kept_weight t hs) (lane_of t slots) spot idle idle m.below in
        let d = sum-set (kept_weight t (h ∷ hs)) (lane_of t slots) spot idle idle m.below in
        let e = others_same t h hs m.id m.head.zero_is (set (lane_of t slots) spot idle) m.others in
        let f = own-by t h hs m.id m.head.zero_is x (get_or (lane_of t slots) spot idle) (closes h) refl m.flow m.was in
        rw mine (omega (arith, a, b, c, d, e, f))

    module _ (s : Stream) (n : eqb (stream_number t) (stream_number s) ≡ false) where
      differ : t ≢ s
      differ z = eqb-false (stream_number t) (stream_number s) n (ap stream_number z)

      theirs : is_of (stream_number s) h.packet ≡ false
      theirs = m.head.of s ∙ n

      lane-same : lane_of s after ≡ lane_of s slots
      lane-same = lane-other t s slots spot x differ low

      flows-other : TurnFlows s slots after h
      flows-other =
          let a : open_sum s after ≡ open_sum s slots = ap (sum_of open_weight) lane-same in
          rw theirs (omega (arith, a))

      first-other : (id : ℕ) → id < 16 → eqb (byte_zero h) (first_byte (stream_number s) id) ≡ false
      first-other id l =
          let d : (stream_number t ≡ stream_number s → ⊥) = eqb-false (stream_number t) (stream_number s) n in
          ne_eqb (byte_zero h) (first_byte (stream_number s) id) (λ q. d (omega (arith, q, m.head.zero_is, m.head.low)))

      keeps-other : (hs : List Heard) → TurnKeeps s slots after h hs
      keeps-other hs =
          let a : kept_sum s after hs ≡ kept_sum s slots hs = ap (sum_of (kept_weight s hs)) lane-same in
          let b : kept_sum s slots (h ∷ hs) ≡ kept_sum s slots hs
          = sum_same (kept_weight s (h ∷ hs)) (kept_weight s hs) idle (lane_of s slots) (λ j u.
          let y : Slot = get_or (lane_of s slots) j idle in
          weight-by s h hs y (opens y) refl (λ o.
          closed-other (first_byte (stream_number s) y.id) h hs (closes h) refl
          (first-other y.id (lawful-open limit y (all-at limit (lane_of s slots) j (lawful-lane limit slots s law)) o).id-low))) in
          rw theirs (omega (arith, a, b))

    flows-by : (s : Stream) (b : Bool) → eqb (stream_number t) (stream_number s) ≡ b → TurnFlows s slots after h
    flows-by s true e = subst (λ (u : Stream). TurnFlows u slots after h) (same_number t s e) flows-own
    flows-by s false e = flows-other s e

    keeps-by : (s : Stream) (hs : List Heard) (b : Bool) → eqb (stream_number t) (stream_number s) ≡ b → TurnKeeps s slots after h hs
    keeps-by s hs true e = subst (λ (u : Stream). TurnKeeps u slots after h hs) (same_number t s e) (keeps-own hs)
    keeps-by s hs false e = keeps-other s e hs

  begins-not : (h : Heard) → Quiet h.told → begins h ≡ false
  begins-not h q = ap (λ (b : Bool). b && is_first (fields_of h.packet)) q.not-accepted

  pub flows : (next : List Slot) (h : Heard) (s : Stream) → Did slots next h → TurnFlows s slots next h
  flows next h s (quiet e q) =
      let a : open_sum s next ≡ open_sum s slots = ap (open_sum s) e in
      let o : Bool = is_of (stream_number s) h.packet in
      omega (arith, a, and_no o (finishes h.told) q.not-finished, and_no o (replaces h.told) q.not-replaced, and_no o (drops h.told) q.not-dropped, and_no o (begins h) (begins-not h q))
  flows next h s (moved t spot x e m) = rw e (flows-by h t spot x m s (eqb (stream_number t) (stream_number s)) refl)

  pub keeps : (next : List Slot) (h : Heard) (s : Stream) (hs : List Heard) → Did slots next h → TurnKeeps s slots next h hs
  keeps next h s hs (quiet e q) =
      let a : kept_sum s next hs ≡ kept_sum s slots hs = ap (λ (l : List Slot). kept_sum s l hs) e in
      let n : begins h ≡ false = begins-not h q in
      let b = quiet_same s h hs (lane_of s slots) (rw (n, q.not-finished, q.not-dropped)) in
      let c : leaves_open h ≡ false = ap (λ (b : Bool). b && not (finishes h.told)) n in
      let d : (leaves_open h && not (closed_in (byte_zero h) hs)) ≡ false = ap (λ (b : Bool). b && not (closed_in (byte_zero h) hs)) c in
      omega (arith, a, b, and_no (is_of (stream_number s) h.packet) (leaves_open h && not (closed_in (byte_zero h) hs)) d)
  keeps next h s hs (moved t spot x e m) = rw e (keeps-by h t spot x m s hs (eqb (stream_number t) (stream_number s)) refl)
