-- Laws of lawful slots and rows.
use Prim.Native.Nat.{ℕ, zero, suc, ◌+◌, ◌*◌, ◌/◌, ◌%◌, ◌^◌, ◌≤◌, ◌<◌}
use native.Mathlib.Nat.{mod-eq_of_lt}
use native.Mathlib.Omega.{arith}
use mathlib.Core.Path.{◌≡◌, refl, sym, ap, ◌∙◌}
use mathlib.Core.List.{List, [], ◌∷◌}
use mathlib.Core.Bool.{Bool, true, false, not, ◌&&◌, false≢true}
use lib.ListN.{length, get_or, set, take, drop}
use lib.Dec.{ltb, leb, eqb, lit<}
use lib.Bits.{bit_and, and_mask, and_block, and_high}
use borrow.Author.Tests.{eq-eqb, eqb-true, ltb-true, leb-true, lt-ltb, le-leb, ne_eqb, not-true}
use Rattle.wire.specs.declared.stream.Stream.{Stream}
use Rattle.wire.specs.declared.stream.Stream.TheVariants.{Control, Ota, Alexa}
use Rattle.wire.proofs.Tests.{and_left, and_right, or-false, or-true}
use Rattle.ble_slot.specs.declared.Slot.{Slot}
use Rattle.ble_slot.specs.Slot.{opens, idle, open_law, idle_law, lawful_slot, all_lawful, is_open, any_open, distinct, lane_law, slots_each, slot_count, lane_start, lane_of, lawful}

-- ---- one slot

same_test : (p q : Bool) → (p ≡ true → q ≡ true) → (q ≡ true → p ≡ true) → p ≡ q
same_test true q f g = sym (f refl)
same_test false true f g = g refl
same_test false false f g = refl

-- six numbers are 0 where the one that they make is
pub all-zero : (a b c d e f : ℕ)
    → eqb (b * 256 + a + c * 65536 + d * 16777216 + e * 4294967296 + f * 281474976710656) 0
    ≡ (eqb a 0 && (eqb b 0 && (eqb c 0 && (eqb d 0 && (eqb e 0 && eqb f 0)))))
all-zero a b c d e f =
    same_test _ _
    (λ t.
    let z : b * 256 + a + c * 65536 + d * 16777216 + e * 4294967296 + f * 281474976710656 ≡ 0 = eqb-true _ 0 t in
    rw (
      eq-eqb a 0 (omega arith),
      eq-eqb b 0 (omega arith),
      eq-eqb c 0 (omega arith),
      eq-eqb d 0 (omega arith),
      eq-eqb e 0 (omega arith),
      eq-eqb f 0 (omega arith),
    ))
    (λ t.
    let t1 = and_right (eqb a 0) _ t in
    let t2 = and_right (eqb b 0) _ t1 in
    let t3 = and_right (eqb c 0) _ t2 in
    let t4 = and_right (eqb d 0) _ t3 in
    let za : a ≡ 0 = eqb-true a 0 (and_left (eqb a 0) _ t) in
    let zb : b ≡ 0 = eqb-true b 0 (and_left (eqb b 0) _ t1) in
    let zc : c ≡ 0 = eqb-true c 0 (and_left (eqb c 0) _ t2) in
    let zd : d ≡ 0 = eqb-true d 0 (and_left (eqb d 0) _ t3) in
    let ze : e ≡ 0 = eqb-true e 0 (and_left (eqb e 0) _ t4) in
    let zf : f ≡ 0 = eqb-true f 0 (and_right (eqb e 0) _ t4) in
    eq-eqb (b * 256 + a + c * 65536 + d * 16777216 + e * 4294967296 + f * 281474976710656) 0 (omega arith))

-- a flag and an id are those of another pair where the numbers that they make are one
pub both-same : (a b i : ℕ) → a < 256 → eqb (b * 256 + a) (i * 256 + 1) ≡ (eqb a 1 && eqb b i)
both-same a b i low =
    same_test _ _
    (λ t.
    let same : b * 256 + a ≡ i * 256 + 1 = eqb-true _ _ t in
    rw (eq-eqb a 1 (omega arith), eq-eqb b i (omega arith)))
    (λ t.
    let za : a ≡ 1 = eqb-true a 1 (and_left (eqb a 1) _ t) in
    let zb : b ≡ i = eqb-true b i (and_right (eqb a 1) _ t) in
    eq-eqb (b * 256 + a) (i * 256 + 1) (omega arith))

-- four bytes, read as one number, have what is fixed of an open slot where the first is 1 and the others are low
fixed-bits : (a b c d : ℕ) → a < 256 → b < 256 → c < 256
    → bit_and (b * 256 + a + c * 65536 + d * 16777216) 4277203199 ≡ (d / 2 % 128 * 2) * 16777216 + (c / 16 % 16 * 16) * 65536 + (b / 16 % 16 * 16) * 256 + a
fixed-bits a b c d la lb lc =
    let whole : b * 256 + a + c * 65536 + d * 16777216 ≡ ((d * 2 ^ 8 + c) * 2 ^ 8 + b) * 2 ^ 8 + a = omega arith in
    let low : bit_and a 255 ≡ a = and_mask a 8 ∙ mod-eq_of_lt la in
    ap (λ (n : ℕ). bit_and n 4277203199) whole
    ∙ and_block 8 ((d * 2 ^ 8 + c) * 2 ^ 8 + b) 16707824 a 255 la (lit< tt)
    ∙ ap (λ (n : ℕ). n * 2 ^ 8 + bit_and a 255) (and_block 8 (d * 2 ^ 8 + c) 65264 b 240 lb (lit< tt))
    ∙ ap (λ (n : ℕ). (n * 2 ^ 8 + bit_and b 240) * 2 ^ 8 + bit_and a 255) (and_block 8 d 254 c 240 lc (lit< tt))
    ∙ rw (and_high d 7 1, and_high c 4 4, and_high b 4 4, low) (omega arith)

parts-of-one : (x y z a : ℕ) → x * 16777216 + y * 65536 + z * 256 + a ≡ 1 → (x ≡ 0) × (y ≡ 0) × (z ≡ 0) × (a ≡ 1)
parts-of-one x y z a e = (omega arith, omega arith, omega arith, omega arith)

low-sixteen : (b : ℕ) → b < 256 → b / 16 % 16 * 16 ≡ 0 → b < 16
low-sixteen b h e =
    let q : b / 16 < 16 = omega arith in
    let z : b / 16 * 16 ≡ 0 = ap (λ (n : ℕ). n * 16) (sym (mod-eq_of_lt q)) ∙ e in
    omega (arith, z)

low-two : (d : ℕ) → d < 256 → d / 2 % 128 * 2 ≡ 0 → d < 2
low-two d h e =
    let q : d / 2 < 128 = omega arith in
    let z : d / 2 * 2 ≡ 0 = ap (λ (n : ℕ). n * 2) (sym (mod-eq_of_lt q)) ∙ e in
    omega (arith, z)

pub open-bits : (a b c d : ℕ) → a < 256 → b < 256 → c < 256 → d < 256
    → eqb (bit_and (b * 256 + a + c * 65536 + d * 16777216) 4277203199) 1 ≡ (eqb a 1 && (ltb b 16 && (ltb c 16 && ltb d 2)))
open-bits a b c d la lb lc ld =
    same_test _ _
    (λ t.
    let p = parts-of-one (d / 2 % 128 * 2) (c / 16 % 16 * 16) (b / 16 % 16 * 16) a (sym (fixed-bits a b c d la lb lc) ∙ eqb-true _ 1 t) in
    rw (eq-eqb a 1 p.3, lt-ltb b 16 (low-sixteen b lb p.2), lt-ltb c 16 (low-sixteen c lc p.1), lt-ltb d 2 (low-two d ld p.0)))
    (λ t.
    let t1 = and_right (eqb a 1) _ t in
    let t2 = and_right (ltb b 16) _ t1 in
    let xa : a ≡ 1 = eqb-true a 1 (and_left (eqb a 1) _ t) in
    let xb : b < 16 = ltb-true b 16 (and_left (ltb b 16) _ t1) in
    let xc : c < 16 = ltb-true c 16 (and_left (ltb c 16) _ t2) in
    let xd : d < 2 = ltb-true d 2 (and_right (ltb c 16) _ t2) in
    let zb : b / 16 ≡ 0 = omega arith in
    let zc : c / 16 ≡ 0 = omega arith in
    let zd : d / 2 ≡ 0 = omega arith in
    eq-eqb _ 1 (fixed-bits a b c d la lb lc ∙ rw (zb, zc, zd, xa)))

pub regrouped : (a b c d e : Bool) → ((a && (b && (c && d))) && e) ≡ (a && (b && (c && (d && e))))
regrouped false b c d e = refl
regrouped true false c d e = refl
regrouped true true false d e = refl
regrouped true true true d e = refl

-- the numbers of an open slot
pub record OpenSlot (limit : ℕ) (s : Slot) : Type 0 where
  pub id-low : s.id < 16
  pub sequence-low : s.sequence < 16
  pub wanted-low : s.wanted < 2
  pub total-low : s.total ≤ limit
  pub some-held : 1 ≤ s.held
  pub held_below : s.held < s.total

open-numbers : (limit : ℕ) (s : Slot) → open_law limit s ≡ true → OpenSlot limit s
open-numbers limit s e =
    let e1 = and_right (ltb s.id 16) _ e in
    let e2 = and_right (ltb s.sequence 16) _ e1 in
    let e3 = and_right (ltb s.wanted 2) _ e2 in
    let e4 = and_right (leb s.total limit) _ e3 in
    record {
      id-low = ltb-true s.id 16 (and_left (ltb s.id 16) _ e);
      sequence-low = ltb-true s.sequence 16 (and_left (ltb s.sequence 16) _ e1);
      wanted-low = ltb-true s.wanted 2 (and_left (ltb s.wanted 2) _ e2);
      total-low = leb-true s.total limit (and_left (leb s.total limit) _ e3);
      some-held = leb-true 1 s.held (and_left (leb 1 s.held) _ e4);
      held_below = ltb-true s.held s.total (and_right (leb 1 s.held) _ e4);
    }

pub lawful-open : (limit : ℕ) (s : Slot) → lawful_slot limit s ≡ true → opens s ≡ true → OpenSlot limit s
unfolding lawful_slot
lawful-open limit s e o = open-numbers limit s (rw o at e)

pub open-lawful : (limit : ℕ) (s : Slot) → opens s ≡ true → OpenSlot limit s → lawful_slot limit s ≡ true
unfolding lawful_slot
open-lawful limit s o n =
    simp (
      o,
      lt-ltb s.id 16 n.id-low,
      lt-ltb s.sequence 16 n.sequence-low,
      lt-ltb s.wanted 2 n.wanted-low,
      le-leb s.total limit n.total-low,
      le-leb 1 s.held n.some-held,
      lt-ltb s.held s.total n.held_below,
    )

pub idle-lawful : (limit : ℕ) → lawful_slot limit idle ≡ true
unfolding lawful_slot
idle-lawful limit = refl

-- a lawful idle slot is not open
idle-shut : (s : Slot) → idle_law s ≡ true → opens s ≡ false
idle-shut s e =
    let zero : s.opened ≡ 0 = eqb-true s.opened 0 (and_left (eqb s.opened 0) _ e) in
    ne_eqb s.opened 1 (λ one. omega arith)

pub idle-says : (limit : ℕ) (s : Slot) → idle_law s ≡ true → lawful_slot limit s ≡ true
unfolding lawful_slot
idle-says limit s e = rw (idle-shut s e) e

-- a slot that is not idle and lawful is lawful where it is open so
pub open-says : (limit : ℕ) (s : Slot) (b : Bool) → opens s ≡ b → idle_law s ≡ false → lawful_slot limit s ≡ (opens s && open_law limit s)
unfolding lawful_slot
open-says limit s true o e = rw o
open-says limit s false o e = rw o e

-- slots that are idle and lawful
abbrev pub each_idle : List Slot → Bool
each_idle [] = true
each_idle (s ∷ ss) = idle_law s && each_idle ss

pub idle-lane : (limit : ℕ) (l : List Slot) → each_idle l ≡ true → lane_law limit l ≡ true
idle-lane limit [] e = refl
idle-lane limit (s ∷ l) e =
    rw (idle-says limit s (and_left (idle_law s) _ e), idle-shut s (and_left (idle_law s) _ e)) (idle-lane limit l (and_right (idle_law s) _ e))

-- ---- all slots

pub all-at : (limit : ℕ) (l : List Slot) (k : ℕ) → all_lawful limit l ≡ true → lawful_slot limit (get_or l k idle) ≡ true
all-at limit [] k e = idle-lawful limit
all-at limit (s ∷ l) zero e = and_left (lawful_slot limit s) _ e
all-at limit (s ∷ l) (suc k) e = all-at limit l k (and_right (lawful_slot limit s) _ e)

pub all_set : (limit : ℕ) (l : List Slot) (k : ℕ) (s : Slot) → all_lawful limit l ≡ true → lawful_slot limit s ≡ true → all_lawful limit (set l k s) ≡ true
all_set limit [] k s e h = refl
all_set limit (x ∷ l) zero s e h = rw h (and_right (lawful_slot limit x) _ e)
all_set limit (x ∷ l) (suc k) s e h =
    rw (and_left (lawful_slot limit x) _ e) (all_set limit l k s (and_right (lawful_slot limit x) _ e) h)

all_take : (limit n : ℕ) (l : List Slot) → all_lawful limit l ≡ true → all_lawful limit (take n l) ≡ true
all_take limit zero l e = refl
all_take limit (suc n) [] e = refl
all_take limit (suc n) (s ∷ l) e =
    rw (and_left (lawful_slot limit s) _ e) (all_take limit n l (and_right (lawful_slot limit s) _ e))

all_drop : (limit n : ℕ) (l : List Slot) → all_lawful limit l ≡ true → all_lawful limit (drop n l) ≡ true
all_drop limit zero l e = e
all_drop limit (suc n) [] e = refl
all_drop limit (suc n) (s ∷ l) e = all_drop limit n l (and_right (lawful_slot limit s) _ e)

-- ---- ids that are open

open_self : (s : Slot) → opens s ≡ true → is_open s.id s ≡ true
open_self s o = rw (o, eq-eqb s.id s.id refl)

-- an id that is open at one index is open
pub any_at : (id : ℕ) (l : List Slot) (i : ℕ) → is_open id (get_or l i idle) ≡ true → any_open id l ≡ true
any_at id [] i o = absurd (false≢true o)
any_at id (x ∷ l) zero o = rw o
any_at id (x ∷ l) (suc i) o = or-true (is_open id x) _ (any_at id l i o)

-- an id that is open nowhere is open nowhere after a store of a slot that has another
pub any-set : (id : ℕ) (l : List Slot) (i : ℕ) (s : Slot) → any_open id l ≡ false → is_open id s ≡ false → any_open id (set l i s) ≡ false
any-set id [] i s e h = refl
any-set id (x ∷ l) zero s e h = rw h (or-false (is_open id x) _ e).1
any-set id (x ∷ l) (suc i) s e h = let n = or-false (is_open id x) _ e in rw n.0 (any-set id l i s n.1 h)

-- no slot of l is open with the id of x, where that is open
abbrev pub unlike : Slot → List Slot → Bool
unlike x l = not (opens x && any_open x.id l)

apart-says : (x : Slot) (l : List Slot) → opens x ≡ true → unlike x l ≡ true → any_open x.id l ≡ false
apart-says x l o n = not-true (any_open x.id l) (rw o at n)

-- the head is not open with an id that is open behind it
pub head-other : (id : ℕ) (x : Slot) (l : List Slot) (b : Bool) → is_open id x ≡ b → unlike x l ≡ true → any_open id l ≡ true → is_open id x ≡ false
head-other id x l false e n o = e
head-other id x l true e n o =
    let same : x.id ≡ id = eqb-true x.id id (and_right (opens x) _ e) in
    let none : any_open id l ≡ false = rw same at (apart-says x l (and_left (opens x) _ e) n) in
    absurd (false≢true (sym none ∙ o))

-- a slot that is open with an id is the only one
pub alone_at : (id : ℕ) (l : List Slot) (i : ℕ) → distinct l ≡ true → is_open id (get_or l i idle) ≡ true → any_open id (set l i idle) ≡ false
alone_at id [] i e o = refl
alone_at id (x ∷ l) zero e o =
    let same : x.id ≡ id = eqb-true x.id id (and_right (opens x) _ o) in
    rw same at (apart-says x l (and_left (opens x) _ o) (and_left (unlike x l) _ e))
alone_at id (x ∷ l) (suc i) e o =
    rw (head-other id x l (is_open id x) refl (and_left (unlike x l) _ e) (any_at id l i o)) (alone_at id l i (and_right (unlike x l) _ e) o)

-- a slot whose id no other has
abbrev Alone : List Slot → ℕ → Slot → Type 0
Alone l i s = (id : ℕ) → is_open id s ≡ true → any_open id (set l i idle) ≡ false

head_apart : (x : Slot) (l : List Slot) (i : ℕ) (s : Slot) (a b : Bool) → opens x ≡ a → is_open x.id s ≡ b
    → (is_open x.id s ≡ true → any_open x.id (x ∷ set l i idle) ≡ false) → unlike x l ≡ true → unlike x (set l i s) ≡ true
head_apart x l i s false b ea eb h e = rw ea
head_apart x l i s true true ea eb h e = absurd (false≢true (sym (or-false (is_open x.id x) _ (h eb)).0 ∙ open_self x ea))
head_apart x l i s true false ea eb h e = rw (ea, any-set x.id l i s (apart-says x l ea e) eb)

first-apart : (s : Slot) (l : List Slot) (a : Bool) → opens s ≡ a → (is_open s.id s ≡ true → any_open s.id l ≡ false) → unlike s l ≡ true
first-apart s l false e h = rw e
first-apart s l true e h = rw (e, h (open_self s e))

pub distinct-set : (l : List Slot) (i : ℕ) (s : Slot) → distinct l ≡ true → Alone l i s → distinct (set l i s) ≡ true
distinct-set [] i s e h = refl
distinct-set (x ∷ l) zero s e h = rw (first-apart s l (opens s) refl (λ o. h s.id o)) (and_right (unlike x l) _ e)
distinct-set (x ∷ l) (suc i) s e h =
    rw (head_apart x l i s (opens x) (is_open x.id s) refl refl (λ o. h x.id o) (and_left (unlike x l) _ e))
    (distinct-set l i s (and_right (unlike x l) _ e) (λ id o. (or-false (is_open id x) _ (h id o)).1))

-- ---- a lawful row

pub record LawfulRow (limit : ℕ) (slots : List Slot) : Type 0 where
  pub count : length slots ≡ slot_count
  pub each : all_lawful limit slots ≡ true
  pub apart : (t : Stream) → distinct (lane_of t slots) ≡ true

by-stream : (P : Stream → Type 0) → P Control → P Ota → P Alexa → (t : Stream) → P t
by-stream P a b c Control = a
by-stream P a b c Ota = b
by-stream P a b c Alexa = c

-- the test says so, both ways
pub lawful-says : (limit : ℕ) (slots : List Slot) → lawful limit slots ≡ true → LawfulRow limit slots
unfolding lawful
lawful-says limit slots e =
    let e1 = and_right (eqb (length slots) slot_count) _ e in
    let e2 = and_right (all_lawful limit slots) _ e1 in
    let e3 = and_right (distinct (lane_of Control slots)) _ e2 in
    record {
      count = eqb-true (length slots) slot_count (and_left (eqb (length slots) slot_count) _ e);
      each = and_left (all_lawful limit slots) _ e1;
      apart =
          by-stream (λ (t : Stream). distinct (lane_of t slots) ≡ true) (and_left (distinct (lane_of Control slots)) _ e2)
          (and_left (distinct (lane_of Ota slots)) _ e3) (and_right (distinct (lane_of Ota slots)) _ e3);
    }

pub lawful-holds : (limit : ℕ) (slots : List Slot) → LawfulRow limit slots → lawful limit slots ≡ true
unfolding lawful
lawful-holds limit slots r =
    rw (eq-eqb (length slots) slot_count r.count, r.each, r.apart Control, r.apart Ota) (r.apart Alexa)

-- each slot of a stream is lawful
pub lawful-lane : (limit : ℕ) (l : List Slot) (t : Stream) → LawfulRow limit l → all_lawful limit (lane_of t l) ≡ true
lawful-lane limit l t e = all_take limit slots_each (drop (lane_start t) l) (all_drop limit (lane_start t) l e.each)
