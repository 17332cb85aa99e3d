-- Laws of the parts of components: a turn of the walk that finds them, that they lie within the message, and that the walk of firmware information counted them.
use Prim.Native.Nat.{ℕ, zero, suc, ◌+◌, ◌≤◌, ◌<◌}
use mathlib.Core.Path.{◌≡◌, refl, sym, ap, ◌∙◌}
use mathlib.Core.Bool.{Bool, true, false, cond, true≢false}
use mathlib.Core.List.{List, [], ◌∷◌, ◌++◌}
use native.Mathlib.Omega.{arith}
use native.Mathlib.Decide.{ℕ_discrete}
use lib.ListN.{length, length-append}
use lib.Dec.{leb, eqb}
use borrow.Author.Tests.{le-leb, lt-leb, leb-true, leb-false, ne_eqb}
use Rattle.wire.specs.Told.{Told, ToldMore, alone, given, refused, and_then}
use Rattle.wire.proofs.Tests.{by_cond}
use Rattle.proto_field.specs.declared.tag.FieldHead.{FieldHead}
use Rattle.proto_field.specs.declared.value.Part.{Part}
use Rattle.proto_field.specs.declared.value.Value.{Value}
use Rattle.proto_field.specs.declared.value.Value.TheVariants.{Number, Bytes, Skipped}
use Rattle.proto_field.specs.Tag.{tag_at}
use Rattle.proto_field.specs.Value.{value_at, Within, value_parts, bytes_of}
use Rattle.utf8.specs.WellFormed.{bad_place}
use Rattle.proto_field.specs.Fields.{Standing, field, end, found_at, behind}
use Rattle.proto_field.proofs.Told.{Sat, sat-then, sat_weaken, sat-given}
use Rattle.proto_field.proofs.Places.{tag-ends, Held, value-held}
use Rattle.proto_reader.specs.declared.gathered.Gathered.{Gathered}
use Rattle.proto_schema.specs.declared.Schema.TheVariants as Schema
use Rattle.proto_schema.specs.declared.Role.{Role}
use Rattle.proto_schema.specs.Schema.{role_of}
use Rattle.proto_reader.specs.Gathered.{nothing, with_text}
use Rattle.proto_reader.specs.declared.reader.Added.{Added}
use Rattle.proto_reader.specs.Walk.{walk, placed, judged, value_added, added_at, read_at, with_string, with_added, field_at, fields_from}
use Rattle.proto_reader.proofs.Steps.{field-forward, fields_within}
use Rattle.msg_firmware.specs.Information.{part_of_component, parts_onward, parts_walked, parts_from, is_none, is_other, component_by, component_of, laid, ComponentOnward}

-- ---- a field ends after its place, and its part lies within the message
abbrev Stands : List ℕ → ℕ → Standing → Type 0
Stands s at (field number value next) = (at < next) × Within s (value_parts value)
Stands s at end = Unit {0}

pub found-stands : (s : List ℕ) (at : ℕ) → Sat (Stands s at) (found_at s at)
unfolding found_at
found-stands s at =
    by_cond (Sat (Stands s at)) (leb (length s) at) (given end) _ (λ _. tt)
    (λ _. sat-then (λ (h : FieldHead). at < h.next) (Stands s at) (tag_at s at) _ (tag-ends s at)
    (λ h l. sat-then (Held s h.next) (Stands s at) (value_at s h.next h.wire) _ (value-held s h.next h.wire) (λ v k. (omega arith, k.1))))

pub found-field : (s : List ℕ) (at number : ℕ) (value : Value) (next : ℕ) → found_at s at ≡ given (field number value next) → (at < next) × Within s (value_parts value)
found-field s at number value next e = sat-given (Stands s at) (found_at s at) (field number value next) (found-stands s at) e

found-end : (s : List ℕ) (at : ℕ) → length s ≤ at → found_at s at ≡ given end
unfolding found_at
found-end s at h = rw (le-leb (length s) at h)

-- ---- a turn
parts-any : (s : List ℕ) (f g at : ℕ) → length s ≤ at + f → length s ≤ at + g → parts_walked f s at ≡ parts_walked g s at
parts-any s zero zero at h k = refl
parts-any s zero (suc g) at h k = sym (ap (parts_onward (parts_walked g s)) (found-end s at (omega arith)))
parts-any s (suc f) zero at h k = ap (parts_onward (parts_walked f s)) (found-end s at (omega arith))
parts-any s (suc f) (suc g) at h k = by-found (λ next l. parts-any s f g next (omega arith) (omega arith)) (found_at s at) (found-stands s at)
  where
    by-found : ((next : ℕ) → at < next → parts_walked f s next ≡ parts_walked g s next) → (r : Told Standing) → Sat (Stands s at) r
        → parts_onward (parts_walked f s) r ≡ parts_onward (parts_walked g s) r
    by-found same (given (field number value next)) l = ap (λ ps. part_of_component number value ++ ps) (same next l.0)
    by-found same (given end) l = refl
    by-found same (refused n) l = refl

pub parts-turn : (s : List ℕ) (at : ℕ) {r : Told Standing} → found_at s at ≡ r → parts_from s at ≡ parts_onward (parts_from s) r
unfolding parts_from
parts-turn s at e = parts-any s (length s) (suc (length s)) at (omega arith) (omega arith) ∙ ap (parts_onward (parts_walked (length s) s)) e

pub parts-end : (s : List ℕ) (at : ℕ) → length s ≤ at → parts_from s at ≡ []
parts-end s at h = parts-turn s at (found-end s at h)

-- ---- the walk over the fields: a field that is no component is passed over, and what is none of these is the answer
field-inside : (s : List ℕ) (at number : ℕ) (value : Value) (next : ℕ) → found_at s at ≡ given (field number value next) → at < length s
field-inside s at number value next e = by_end (leb (length s) at) refl
  where
    is_field : Told Standing → Bool
    is_field (given (field n v k)) = true
    is_field (given end) = false
    is_field (refused n) = false

    by_end : (b : Bool) → leb (length s) at ≡ b → at < length s
    by_end true t = absurd (true≢false (ap is_field (sym e ∙ found-end s at (leb-true (length s) at t))))
    by_end false t = leb-false (length s) at t

pub passed_over : (s : List ℕ) (at : ℕ) (t : Told Standing) → found_at s at ≡ t → is_other t ≡ true
    → (at < length s) × (at < behind at t) × (parts_from s at ≡ parts_from s (behind at t))
passed_over s at (given (field number value next)) e o = (
  field-inside s at number value next e,
  (found-field s at number value next e).0,
  parts-turn s at e ∙ ap (λ ps. ps ++ parts_from s next) (by_part (part_of_component number value) o),
)
  where
    by_part : (ps : List Part) → is_none ps ≡ true → ps ≡ []
    by_part [] h = refl
    by_part (p ∷ ps) h = absurd (true≢false (sym h))
passed_over s at (given end) e o = absurd (true≢false (sym o))
passed_over s at (refused n) e o = absurd (true≢false (sym o))

pub stopped-at : (s : List ℕ) (at : ℕ) (t : Told Standing) → found_at s at ≡ t → is_other t ≡ false
    → (parts_from s at ≡ laid s (component_of t)) × ComponentOnward s at (component_of t)
stopped-at s at (given (field number (Number v) next)) e o = by_number (eqb number 3) o
  where
    by_number : (b : Bool) → is_none (cond b [] []) ≡ false → (parts_from s at ≡ laid s (component_by next (cond b [] []))) × ComponentOnward s at (component_by next (cond b [] []))
    by_number true h = absurd (true≢false h)
    by_number false h = absurd (true≢false h)
stopped-at s at (given (field number (Bytes p) next)) e o =
    let f = found-field s at number (Bytes p) next e in
    by_number (eqb number 3) o (parts-turn s at e) f.0 f.1.0
  where
    by_number : (b : Bool) → is_none (cond b (p ∷ []) []) ≡ false → parts_from s at ≡ cond b (p ∷ []) [] ++ parts_from s next → at < next → p.start + p.len ≤ length s
        → (parts_from s at ≡ laid s (component_by next (cond b (p ∷ []) []))) × ComponentOnward s at (component_by next (cond b (p ∷ []) []))
    by_number true h turn l w = (turn, (l, w))
    by_number false h turn l w = absurd (true≢false h)
stopped-at s at (given (field number (Skipped p) next)) e o = by_number (eqb number 3) o
  where
    by_number : (b : Bool) → is_none (cond b [] []) ≡ false → (parts_from s at ≡ laid s (component_by next (cond b [] []))) × ComponentOnward s at (component_by next (cond b [] []))
    by_number true h = absurd (true≢false h)
    by_number false h = absurd (true≢false h)
stopped-at s at (given end) e o = (parts-turn s at e, tt)
stopped-at s at (refused n) e o = (parts-turn s at e, tt)

-- ---- the walk of firmware information counts them
-- roles that count nothing
abbrev Quiet : Role → Type 0
Quiet (Role.Scalar slot) = Unit {0}
Quiet (Role.Text slot) = Unit {0}
Quiet Role.Transports = ⊥
Quiet Role.Nested = Unit {0}
Quiet Role.Repeated = ⊥
Quiet Role.Member = Unit {0}
Quiet Role.Unknown = Unit {0}

quiet-field : (f : ℕ) → (f ≡ 3 → ⊥) → Quiet (role_of Schema.Firmware f)
unfolding role_of
quiet-field f n =
    rw (ne_eqb f 3 n)
    (by_cond Quiet (eqb f 1) (Role.Scalar 0) _ (λ _. tt) (λ _.
    by_cond Quiet (eqb f 2) (Role.Text 0) _ (λ _. tt) (λ _.
    by_cond Quiet (eqb f 4) (Role.Text 1) _ (λ _. tt) (λ _. by_cond Quiet (eqb f 5) (Role.Text 2) _ (λ _. tt) (λ _. tt)))))

-- what was counted, and where the field ends
abbrev Counted : ℕ → ℕ → Gathered × ℕ → Type 0
Counted count next q = (count ≡ q.0.count) × (next ≡ q.1)

string-counts : (s : List ℕ) (f slot : ℕ) (p : Part) (next : ℕ) (g : Gathered) → Sat (Counted g.count next) (and_then (with_string s f slot p g) (placed next))
unfolding with_string
string-counts s f slot p next g = by_place (eqb (bad_place (bytes_of s p)) (length (bytes_of s p)))
  where
    by_place : (b : Bool) → Sat {N = ℕ × List ℕ} (Counted g.count next) (and_then (cond b (given (with_text slot p g)) (refused (36, f ∷ bad_place (bytes_of s p) ∷ []))) (placed next))
    by_place true = (refl, refl)
    by_place false = tt

quiet-counts : (s : List ℕ) (role : Role) (f : ℕ) (v : Value) (next : ℕ) (g : Gathered) → Quiet role
    → Sat (Counted g.count next) (and_then (with_added s (value_added role f v) g) (placed next))
quiet-counts s (Role.Scalar i) f (Number v) next g h = (refl, refl)
quiet-counts s (Role.Text i) f (Number v) next g h = (refl, refl)
quiet-counts s Role.Transports f (Number v) next g h = absurd h
quiet-counts s Role.Nested f (Number v) next g h = (refl, refl)
quiet-counts s Role.Repeated f (Number v) next g h = absurd h
quiet-counts s Role.Member f (Number v) next g h = (refl, refl)
quiet-counts s Role.Unknown f (Number v) next g h = (refl, refl)
quiet-counts s (Role.Scalar i) f (Bytes p) next g h = (refl, refl)
quiet-counts s (Role.Text i) f (Bytes p) next g h = string-counts s f i p next g
quiet-counts s Role.Transports f (Bytes p) next g h = absurd h
quiet-counts s Role.Nested f (Bytes p) next g h = (refl, refl)
quiet-counts s Role.Repeated f (Bytes p) next g h = absurd h
quiet-counts s Role.Member f (Bytes p) next g h = (refl, refl)
quiet-counts s Role.Unknown f (Bytes p) next g h = (refl, refl)
quiet-counts s role f (Skipped p) next g h = (refl, refl)

component-counts : (s : List ℕ) (v : Value) (next : ℕ) (g : Gathered)
    → Sat (Counted (length (value_parts v) + g.count) next) (and_then (with_added s (value_added Role.Repeated 3 v) g) (placed next))
component-counts s (Number v) next g = (omega arith, refl)
component-counts s (Bytes p) next g = (omega arith, refl)
component-counts s (Skipped p) next g = (omega arith, refl)

value-counts : (s : List ℕ) (f : ℕ) (v : Value) (next : ℕ) (g : Gathered)
    → Sat (Counted (length (part_of_component f v) + g.count) next) (and_then (with_added s (value_added (role_of Schema.Firmware f) f v) g) (placed next))
unfolding role_of
value-counts s f v next g = by_field (ℕ_discrete f 3)
  where
    by_field : Dec (f ≡ 3) → Sat (Counted (length (part_of_component f v) + g.count) next) (and_then (with_added s (value_added (role_of Schema.Firmware f) f v) g) (placed next))
    by_field (yes e) = rw e (component-counts s v next g)
    by_field (no n) =
        sat_weaken (Counted g.count next) (Counted (length (part_of_component f v) + g.count) next) (and_then (with_added s (value_added (role_of Schema.Firmware f) f v) g) (placed next))
        (quiet-counts s (role_of Schema.Firmware f) f v next g (quiet-field f n))
        (λ q h. (rw (ne_eqb f 3 n) (omega (arith, h.0)), h.1))

-- the parts from a place on, with what was counted before
abbrev Counts : List ℕ → ℕ → ℕ → Gathered × ℕ → Type 0
Counts s at count q = length (parts_from s at) + count ≡ length (parts_from s q.1) + q.0.count

-- what a field of firmware information adds, by its value
abbrev adds : FieldHead → Value × ℕ → Told (Added × ℕ)
adds h x = given (value_added (role_of Schema.Firmware h.field) h.field x.0, x.1)

field-counts : (s : List ℕ) (at : ℕ) (g : Gathered) → at < length s → Sat (Counts s at g.count) (field_at Schema.Firmware s at g)
unfolding field_at read_at added_at found_at
field-counts s at g inside = by-tag (tag_at s at) refl
  where
    by_value : (h : FieldHead) (u : Told (Unit {0})) (v : Told (Value × ℕ)) → tag_at s at ≡ given h → value_at s h.next h.wire ≡ v
        → Sat (Counts s at g.count)
        (and_then (alone (and_then u (λ _. and_then v (adds h)))) (λ a. and_then (with_added s a.0 g) (placed a.1)))
    by_value h (given u) (given x) e k =
        let found : found_at s at ≡ given (field h.field x.0 x.1) = rw (lt-leb (length s) at inside, e, k) in
        sat_weaken (Counted (length (part_of_component h.field x.0) + g.count) x.1) (Counts s at g.count) (and_then (with_added s (value_added (role_of Schema.Firmware h.field) h.field x.0) g) (placed x.1)) (value-counts s h.field x.0 x.1 g)
        (λ q c. rw (← c.1)
        (omega (arith, c.0, ap length (parts-turn s at found), length-append (part_of_component h.field x.0) (parts_from s x.1))))
    by_value h (given u) (refused n) e k = tt
    by_value h (refused n) v e k = tt

    by-tag : (t : Told FieldHead) → tag_at s at ≡ t
        → Sat (Counts s at g.count)
        (and_then (alone (and_then t (λ h. and_then (judged (role_of Schema.Firmware h.field) h.wire g.field g.count) (λ _. and_then (value_at s h.next h.wire) (adds h)))))
        (λ a. and_then (with_added s a.0 g) (placed a.1)))
    by-tag (given h) e = by_value h (judged (role_of Schema.Firmware h.field) h.wire g.field g.count) (value_at s h.next h.wire) e refl
    by-tag (refused n) e = tt

walk-counts : (s : List ℕ) (fuel at : ℕ) (g : Gathered) → length s ≤ at + fuel
    → Sat (λ (x : Gathered). length (parts_from s at) + g.count ≡ x.count) (walk (field_at Schema.Firmware) fuel s at g)
walk-counts s zero at g h = omega (arith, ap length (parts-end s at (omega arith)))
walk-counts s (suc fuel) at g h =
    let Q : Gathered → Type 0 = λ x. length (parts_from s at) + g.count ≡ x.count in
    by_cond (Sat Q) (leb (length s) at) (given g) _ (λ t. omega (arith, ap length (parts-end s at (leb-true (length s) at t))))
    (λ t. by_field (walk-counts s fuel) (field_at Schema.Firmware s at g) refl (field-counts s at g (leb-false (length s) at t)))
  where
    by_field : ((at₁ : ℕ) (g₁ : Gathered) → length s ≤ at₁ + fuel → Sat (λ (x : Gathered). length (parts_from s at₁) + g₁.count ≡ x.count) (walk (field_at Schema.Firmware) fuel s at₁ g₁))
        → (r : ToldMore (Gathered × ℕ)) → field_at Schema.Firmware s at g ≡ r → Sat (Counts s at g.count) r
        → Sat (λ (x : Gathered). length (parts_from s at) + g.count ≡ x.count) (and_then r (λ q. walk (field_at Schema.Firmware) fuel s q.1 q.0))
    by_field more (given q) e c =
        sat_weaken (λ (x : Gathered). length (parts_from s q.1) + q.0.count ≡ x.count) (λ (x : Gathered). length (parts_from s at) + g.count ≡ x.count)
        (walk (field_at Schema.Firmware) fuel s q.1 q.0)
        (more q.1 q.0 (omega (arith, field-forward Schema.Firmware s at g q e))) (λ x k. c ∙ k)
    by_field more (refused n) e c = tt

-- as many as were counted, at most eight
pub parts-counted : (s : List ℕ) (at : ℕ) (g : Gathered) → fields_from Schema.Firmware s at ≡ given g → length (parts_from s at) ≡ g.count
unfolding fields_from
parts-counted s at g e =
    let c : length (parts_from s at) + 0 ≡ g.count =
    sat-given (λ (x : Gathered). length (parts_from s at) + 0 ≡ x.count) (fields_from Schema.Firmware s at) g (walk-counts s (length s) at nothing (omega arith)) e in
    omega arith

pub parts-most : (s : List ℕ) (at : ℕ) (g : Gathered) → fields_from Schema.Firmware s at ≡ given g → length (parts_from s at) ≤ 8
parts-most s at g e = omega (arith, parts-counted s at g e, (fields_within Schema.Firmware s at g e).1)
