-- Laws of the places that reading gives: a tag and a value end after their place, and parts lie within the message.
use Prim.Native.Nat.{ℕ, zero, suc, ◌+◌, ◌/◌, ◌%◌, ◌≤◌, ◌<◌}
use mathlib.Core.Path.{◌≡◌, sym, subst}
use mathlib.Core.List.{List, [], ◌∷◌}
use native.Mathlib.Omega.{arith}
use lib.ListN.{length, get_or, set}
use lib.Dec.{ltb, eqb}
use borrow.Author.Tests.{ltb-false}
use Rattle.wire.specs.Told.{Told, given, refused}
use Rattle.wire.proofs.Tests.{by_cond}
use Rattle.proto_field.specs.declared.tag.FieldHead.{FieldHead}
use Rattle.proto_field.specs.declared.value.Part.{Part}
use Rattle.proto_field.specs.declared.value.Value.{Value}
use Rattle.proto_field.specs.declared.value.Value.TheVariants.{Number, Skipped}
use Rattle.proto_field.specs.Varint.{varint_at}
use Rattle.proto_field.specs.Tag.{bad_tag, head_of, tag_at}
use Rattle.proto_field.specs.Value.{skipped_at, part_of, value_at, Within, TellsWithin, value_parts, read_parts}
use Rattle.proto_field.proofs.Told.{Sat, sat-then}
use Rattle.proto_field.proofs.Varints.{Ends, varint-ends}

pub tag-ends : (s : List ℕ) (at : ℕ) → Sat (λ (h : FieldHead). at < h.next) (tag_at s at)
unfolding tag_at
tag-ends s at =
    sat-then (Ends at (length s)) (λ (h : FieldHead). at < h.next) (varint_at s at) head_of (varint-ends s at)
    (λ p e. by_cond (Sat (λ (h : FieldHead). at < h.next)) (bad_tag (p.0 / 8) (p.0 % 8)) (refused 32) _ (λ _. tt) (λ _. e.0))

-- a value ends at or after its place, and its part within the message
abbrev pub Held : List ℕ → ℕ → Value × ℕ → Type 0
Held s at q = (at ≤ q.1) × Within s (value_parts q.0)

skipped-held : (s : List ℕ) (at n : ℕ) → Sat (Held s at) (skipped_at s at n)
skipped-held s at n = by_cond (Sat (Held s at)) (ltb (length s) (at + n)) (refused 30) (given (Skipped (record { start = at; len = n }), at + n)) (λ _. tt) (λ _. (omega arith, tt))

part_held : (s : List ℕ) (at : ℕ) (p : ℕ × ℕ) → Ends at (length s) p → Sat (Held s at) (part_of s p)
part_held s at p e =
    by_cond (Sat (Held s at)) (ltb (length s) (p.1 + p.0)) (refused 30) _ (λ _. tt)
    (λ t. (omega arith, (ltb-false (length s) (p.1 + p.0) t, tt)))

pub value-held : (s : List ℕ) (at wire : ℕ) → Sat (Held s at) (value_at s at wire)
unfolding value_at
value-held s at wire =
    let P = Held s at in
    by_cond (Sat P) (eqb wire 0) _ _
    (λ _. sat-then (Ends at (length s)) P (varint_at s at) (λ p. given (Number p.0, p.1)) (varint-ends s at) (λ p e. (omega arith, tt)))
    (λ _. by_cond (Sat P) (eqb wire 2) _ _ (λ _. sat-then (Ends at (length s)) P (varint_at s at) (part_of s) (varint-ends s at) (part_held s at))
    (λ _. by_cond (Sat P) (eqb wire 1) _ _ (λ _. skipped-held s at 8)
    (λ _. by_cond (Sat P) (eqb wire 5) _ _ (λ _. skipped-held s at 4) (λ _. tt))))

-- whatever is told of a value is told with its part within the message
pub value-told : (s : List ℕ) (at wire : ℕ) (t : Told (Value × ℕ)) → t ≡ value_at s at wire
    → (t ≡ value_at s at wire) × TellsWithin s read_parts t
value-told s at wire t e = (e, go t (subst (Sat (Held s at)) (sym e) (value-held s at wire)))
  where
    go : (r : Told (Value × ℕ)) → Sat (Held s at) r → TellsWithin s read_parts r
    go (given q) h = h.1
    go (refused n) h = tt

-- ---- parts within a message: in a longer one, with one of them replaced, and each by itself
pub within-longer : (s t : List ℕ) (ps : List Part) → length s ≤ length t → Within s ps → Within t ps
within-longer s t [] l h = tt
within-longer s t (p ∷ ps) l h = (omega (arith, h.0), within-longer s t ps l h.1)

pub within-set : (s : List ℕ) (ps : List Part) (i : ℕ) (p : Part) → p.start + p.len ≤ length s → Within s ps → Within s (set ps i p)
within-set s [] i p e h = tt
within-set s (q ∷ ps) zero p e h = (e, h.1)
within-set s (q ∷ ps) (suc i) p e h = (h.0, within-set s ps i p e h.1)

pub within-get : (s : List ℕ) (ps : List Part) (i : ℕ) (d : Part) → d.start + d.len ≤ length s → Within s ps
    → (get_or ps i d).start + (get_or ps i d).len ≤ length s
within-get s [] i d e h = e
within-get s (q ∷ ps) zero d e h = h.0
within-get s (q ∷ ps) (suc i) d e h = within-get s ps i d e h.1
