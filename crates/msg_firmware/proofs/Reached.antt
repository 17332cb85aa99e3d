-- The fields that next_component passes over: the place that it has reached, and what was found there.
use Rattle.std.proofs.Common.{◌≡◌, ℕ, ◌+◌, ◌-◌, ◌≤◌, ◌<◌, List, length, Bool, true, false, refl, sym, ◌∙◌, arith, Option, Some, None}
use Rattle.wire.specs.Bytes.{bit}
use Rattle.wire.specs.Told.{Told, given, refused}
use Rattle.proto_field.specs.Fields.{Standing, field, end, found_at, behind}
use Rattle.msg_firmware.specs.Information.{parts_from, is_other, component_of, laid, ComponentOnward}
use Rattle.proto_field.specs.declared.value.Part.{Part}
use Rattle.proto_field.specs.declared.varint.Placed.{Placed}
use Rattle.msg_firmware.proofs.Parts.{found-field, passed_over, stopped-at}

-- t was found at a place, with `after` behind it, and no field between `start` and that place is a component
pub record Reached (s : List ℕ) (start : ℕ) (t : Told Standing) (after : ℕ) : Type 0 where
  pub at : ℕ
  pub stands : found_at s at ≡ t
  pub behind_it : after ≡ behind at t
  pub onward : start ≤ at
  pub passed : parts_from s start ≡ parts_from s at

pub reached_first : (s : List ℕ) (start : ℕ) (t : Told Standing) (after : ℕ) → t ≡ found_at s start → after ≡ behind start t → Reached s start t after
reached_first s start t after e b = record { at = start; stands = sym e; behind_it = b; onward = omega arith; passed = refl }

pub reached_next : (s : List ℕ) (start : ℕ) (t : Told Standing) (after : ℕ) (t' : Told Standing) (after' : ℕ) → Reached s start t after → is_other t ≡ true
    → t' ≡ found_at s after → after' ≡ behind after t' → Reached s start t' after'
reached_next s start t after t' after' r o e b =
    let p = passed_over s r.at t r.stands o in
    let k : parts_from s r.at ≡ parts_from s after = rw r.behind_it p.2 in
    record { at = after; stands = sym e; behind_it = b; onward = omega (arith, r.onward, r.behind_it, p.1); passed = r.passed ∙ k }

-- a field ends at or behind its place
not_before : (s : List ℕ) (at : ℕ) (t : Told Standing) → found_at s at ≡ t → at ≤ behind at t
not_before s at (given (field number value next)) e = omega (arith, (found-field s at number value next e).0)
not_before s at (given end) e = omega arith
not_before s at (refused n) e = omega arith

-- a turn's measure: the bytes behind the field, and one more where the field is passed over
abbrev pub left_of : List ℕ → Told Standing → ℕ → ℕ
left_of s t after = length s - after + bit (is_other t)

less_by : (s : List ℕ) (after : ℕ) (t' : Told Standing) (after' : ℕ) (b : Bool) → is_other t' ≡ b → found_at s after ≡ t' → after' ≡ behind after t'
    → length s - after' + bit b < length s - after + 1
less_by s after t' after' true o e b = let p = passed_over s after t' e o in omega (arith, p.0, p.1, b)
less_by s after t' after' false o e b = omega (arith, not_before s after t' e, b)

pub reached_less : (s : List ℕ) (t : Told Standing) (after : ℕ) (t' : Told Standing) (after' : ℕ) → is_other t ≡ true
    → t' ≡ found_at s after → after' ≡ behind after t' → left_of s t' after' < left_of s t after
reached_less s t after t' after' o e b = rw o (less_by s after t' after' (is_other t') refl (sym e) b)

onward_from : (s : List ℕ) (start at : ℕ) → start ≤ at → (c : Option (Placed Part)) → ComponentOnward s at c → ComponentOnward s start c
onward_from s start at l (Some c) h = (omega (arith, h.0), h.1)
onward_from s start at l None h = tt

pub reached_found : (s : List ℕ) (start : ℕ) (t : Told Standing) (after : ℕ) → Reached s start t after → is_other t ≡ false
    → (parts_from s start ≡ laid s (component_of t)) × ComponentOnward s start (component_of t)
reached_found s start t after r o =
    let p = stopped-at s r.at t r.stands o in
    (r.passed ∙ p.0, onward_from s start r.at r.onward (component_of t) p.1)
