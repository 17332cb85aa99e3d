-- Laws of a stream's slots among all.
use Prim.Native.Nat.{ℕ, zero, suc, ◌+◌, ◌-◌, ◌≤◌, ◌<◌}
use native.Mathlib.Omega.{arith}
use mathlib.Core.Path.{◌≡◌, refl, sym, ap, ◌∙◌}
use mathlib.Core.Logic.{◌≢◌}
use mathlib.Core.List.{List, [], ◌∷◌}
use mathlib.Core.Bool.{Bool, true, false, not, ◌&&◌, and_assoc, and-true, and-false}
use lib.ListN.{length, get_or, set, take, drop, length-set, length-drop}
use lib.Seq.{take-length, take-set-le, take-set-lt, drop-set-lt, drop-set-add, drop-drop, drop-cons}
use lib.Dec.{ltb, eqb}
use borrow.Author.Tests.{eq-eqb, eqb-true, eqb-false, ltb-true, ltb-false}
use Rattle.wire.specs.declared.stream.Stream.{Stream}
use Rattle.wire.specs.declared.stream.Stream.TheVariants.{Control, Ota, Alexa}
use Rattle.ble_slot.specs.declared.Slot.{Slot}
use Rattle.ble_slot.specs.Slot.{opens, idle, is_open, any_open, idle_law, lawful_slot, all_lawful, distinct, lane_law, slots_each, slot_count, lane_number, lane_start, lane_of, lawful}
use Rattle.ble_slot.proofs.Slots.{idle-lane, all_set, distinct-set, LawfulRow}

-- the stream of a lane
stream_at : ℕ → Stream
stream_at zero = Control
stream_at (suc zero) = Ota
stream_at (suc (suc n)) = Alexa

stream-back : (a : Stream) → stream_at (lane_number a) ≡ a
unfolding stream_at
stream-back Control = refl
stream-back Ota = refl
stream-back Alexa = refl

pub same-stream : (a b : Stream) → lane_number a ≡ lane_number b → a ≡ b
same-stream a b e = sym (stream-back a) ∙ ap stream_at e ∙ stream-back b

-- a stream's spot is an index of the row
pub spot-low : (t : Stream) (spot : ℕ) → spot < slots_each → lane_start t + spot < slot_count
spot-low Control spot low = omega arith
spot-low Ota spot low = omega arith
spot-low Alexa spot low = omega arith

-- spots of different streams differ in the row
pub spot-other : (a b : Stream) (i j : ℕ) → a ≢ b → i < slots_each → j < slots_each → lane_start a + i ≢ lane_start b + j
spot-other a b i j d u v e = d (same-stream a b (omega arith))

outside : (n k : ℕ) (l : List Slot) (at : ℕ) (s : Slot) (b : Bool) → ltb at k ≡ b → (k ≤ at → k + n ≤ at)
    → take n (drop k (set l at s)) ≡ take n (drop k l)
outside n k l at s true e h = ap (take n) (drop-set-lt k l at s (ltb-true at k e))
outside n k l at s false e h =
    let below : k ≤ at = ltb-false at k e in
    let past : k + n ≤ at = h below in
    let same : at ≡ k + (at - k) = omega arith in
    ap (λ (i : ℕ). take n (drop k (set l i s))) same
    ∙ ap (take n) (drop-set-add k l (at - k) s)
    ∙ take-set-le n (drop k l) (at - k) s (omega arith)

-- a store at another stream's spot
pub lane-other : (a t : Stream) (slots : List Slot) (spot : ℕ) (s : Slot) → a ≢ t → spot < slots_each
    → lane_of t (set slots (lane_start a + spot) s) ≡ lane_of t slots
lane-other a t slots spot s d low =
    let apart : (lane_number a ≡ lane_number t → ⊥) = λ e. d (same-stream a t e) in
    outside slots_each (lane_start t) slots (lane_start a + spot) s (ltb (lane_start a + spot) (lane_start t)) refl (λ h. omega arith)

-- a store at one of its own
pub lane-set : (t : Stream) (slots : List Slot) (spot : ℕ) (s : Slot) → spot < slots_each
    → lane_of t (set slots (lane_start t + spot) s) ≡ set (lane_of t slots) spot s
lane-set t slots spot s low =
    ap (take slots_each) (drop-set-add (lane_start t) slots spot s) ∙ take-set-lt slots_each (drop (lane_start t) slots) spot s low

-- a lawful slot in place of another, whose id no other of its stream has
distinct-next : (t u : Stream) (slots : List Slot) (spot : ℕ) (s : Slot) (b : Bool) → eqb (lane_number t) (lane_number u) ≡ b
    → distinct (lane_of u slots) ≡ true → spot < slots_each
    → ((id : ℕ) → is_open id s ≡ true → any_open id (set (lane_of t slots) spot idle) ≡ false)
    → distinct (lane_of u (set slots (lane_start t + spot) s)) ≡ true
distinct-next t u slots spot s true e law low alone =
    let same : t ≡ u = same-stream t u (eqb-true (lane_number t) (lane_number u) e) in
    rw (← same) (rw (lane-set t slots spot s low) (distinct-set (lane_of t slots) spot s (rw (← same) at law) alone))
distinct-next t u slots spot s false e law low alone =
    rw (lane-other t u slots spot s (λ d. eqb-false (lane_number t) (lane_number u) e (ap lane_number d)) low) law

pub lawful-set : (limit : ℕ) (t : Stream) (slots : List Slot) (spot : ℕ) (s : Slot) → LawfulRow limit slots → spot < slots_each
    → lawful_slot limit s ≡ true → ((id : ℕ) → is_open id s ≡ true → any_open id (set (lane_of t slots) spot idle) ≡ false)
    → LawfulRow limit (set slots (lane_start t + spot) s)
lawful-set limit t slots spot s law low left alone =
    record {
      count = length-set slots (lane_start t + spot) s ∙ law.count;
      each = all_set limit slots (lane_start t + spot) s law.each left;
      apart = λ u. distinct-next t u slots spot s (eqb (lane_number t) (lane_number u)) refl (law.apart u) low alone;
    }

-- ---- the row slot by slot, as the code has it

-- four slots of a row
run : (n at : ℕ) (l : List Slot) → at + suc n ≤ length l → take (suc n) (drop at l) ≡ get_or l at idle ∷ take n (drop (suc at) l)
run n at l h = ap (take (suc n)) (drop-cons l at idle (omega arith))

pub lane-four : (at : ℕ) (l : List Slot) → at + slots_each ≤ length l
    → take slots_each (drop at l) ≡ get_or l at idle ∷ get_or l (suc at) idle ∷ get_or l (suc (suc at)) idle ∷ get_or l (suc (suc (suc at))) idle ∷ []
lane-four at l h =
    run 3 at l h
    ∙ ap (λ (m : List Slot). get_or l at idle ∷ m)
    (run 2 (suc at) l (omega arith)
    ∙ ap (λ (m : List Slot). get_or l (suc at) idle ∷ m)
    (run 1 (suc (suc at)) l (omega arith) ∙ ap (λ (m : List Slot). get_or l (suc (suc at)) idle ∷ m) (run 0 (suc (suc (suc at))) l (omega arith))))

-- what holds of any four slots holds of a list of four
pub by-four : (P : List Slot → Type 0) → ((a b c d : Slot) → P (a ∷ b ∷ c ∷ d ∷ [])) → (lane : List Slot) → length lane ≡ slots_each → P lane
by-four P h [] n = absurd (omega arith)
by-four P h (a ∷ []) n = absurd (omega arith)
by-four P h (a ∷ b ∷ []) n = absurd (omega arith)
by-four P h (a ∷ b ∷ c ∷ []) n = absurd (omega arith)
by-four P h (a ∷ b ∷ c ∷ d ∷ []) n = h a b c d
by-four P h (a ∷ b ∷ c ∷ d ∷ e ∷ l) n = absurd (omega arith)

-- the law of four
abbrev LawFour : ℕ → List Slot → Type 0
LawFour limit lane =
    lane_law limit lane
    ≡ ((lawful_slot limit (get_or lane 0 idle)
    && (lawful_slot limit (get_or lane 1 idle) && (lawful_slot limit (get_or lane 2 idle) && lawful_slot limit (get_or lane 3 idle))))
    && (not (opens (get_or lane 0 idle) && any_open (get_or lane 0 idle).id (get_or lane 1 idle ∷ get_or lane 2 idle ∷ get_or lane 3 idle ∷ []))
    && (not (opens (get_or lane 1 idle) && any_open (get_or lane 1 idle).id (get_or lane 2 idle ∷ get_or lane 3 idle ∷ idle ∷ []))
    && not (opens (get_or lane 2 idle) && any_open (get_or lane 2 idle).id (get_or lane 3 idle ∷ idle ∷ idle ∷ [])))))

pub law-four : (limit : ℕ) (lane : List Slot) → length lane ≡ slots_each → LawFour limit lane
law-four limit = by-four (LawFour limit) (λ a b c d. simp (and-true, and-false))

-- four idle slots
abbrev IdleFour : ℕ → List Slot → Type 0
IdleFour limit lane =
    (idle_law (get_or lane 0 idle) && (idle_law (get_or lane 1 idle) && (idle_law (get_or lane 2 idle) && idle_law (get_or lane 3 idle)))) ≡ true
    → lane_law limit lane ≡ true

pub idle-four : (limit : ℕ) (lane : List Slot) → length lane ≡ slots_each → IdleFour limit lane
idle-four limit = by-four (IdleFour limit) (λ a b c d e. idle-lane limit (a ∷ b ∷ c ∷ d ∷ []) (simp (and-true) e))

all_split : (limit n : ℕ) (l : List Slot) → all_lawful limit l ≡ (all_lawful limit (take n l) && all_lawful limit (drop n l))
all_split limit zero l = refl
all_split limit (suc n) [] = refl
all_split limit (suc n) (s ∷ l) =
    ap (λ (b : Bool). lawful_slot limit s && b) (all_split limit n l)
    ∙ sym (and_assoc (lawful_slot limit s) (all_lawful limit (take n l)) (all_lawful limit (drop n l)))

regroup : (a b c d e f : Bool) → ((a && (b && c)) && (d && (e && f))) ≡ ((a && d) && ((b && e) && (c && f)))
regroup false b c d e f = refl
regroup true false c true e f = refl
regroup true false c false e f = refl
regroup true true true d e f = refl
regroup true true false false e f = refl
regroup true true false true false f = refl
regroup true true false true true f = refl

last-four : (l : List Slot) → length l ≡ slot_count → take slots_each (drop 8 l) ≡ drop 8 l
last-four l e =
    let n : length (drop 8 l) ≡ slots_each = length-drop 8 l ∙ omega arith in
    ap (λ (k : ℕ). take k (drop 8 l)) (sym n) ∙ take-length (drop 8 l)

all_lanes : (limit : ℕ) (l : List Slot) → length l ≡ slot_count
    → all_lawful limit l ≡ (all_lawful limit (lane_of Control l) && (all_lawful limit (lane_of Ota l) && all_lawful limit (lane_of Alexa l)))
all_lanes limit l e =
    all_split limit slots_each l
    ∙ ap (λ (b : Bool). all_lawful limit (lane_of Control l) && b)
    (all_split limit slots_each (drop slots_each l)
    ∙ ap (λ (m : List Slot). all_lawful limit (lane_of Ota l) && all_lawful limit m) (drop-drop slots_each slots_each l ∙ sym (last-four l e)))

-- the law of a row, stream by stream
pub lawful-lanes : (limit : ℕ) (l : List Slot) → length l ≡ slot_count
    → lawful limit l ≡ (lane_law limit (lane_of Control l) && (lane_law limit (lane_of Ota l) && lane_law limit (lane_of Alexa l)))
unfolding lawful
lawful-lanes limit l e =
    rw (eq-eqb (length l) slot_count e, all_lanes limit l e)
    (regroup (all_lawful limit (lane_of Control l)) (all_lawful limit (lane_of Ota l)) (all_lawful limit (lane_of Alexa l)) (distinct (lane_of Control l)) (distinct (lane_of Ota l)) (distinct (lane_of Alexa l)))
