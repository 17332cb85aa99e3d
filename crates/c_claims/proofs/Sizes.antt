-- The longest that the fields of a message can be.
use Prim.Native.Nat.{ℕ, zero, suc, ◌+◌, ◌*◌, ◌/◌, ◌%◌, ◌≤◌}
use mathlib.Core.Path.{◌≡◌}
use mathlib.Core.Bool.{Bool, true, false, cond}
use mathlib.Core.List.{List, [], ◌∷◌}
use native.Mathlib.Omega.{arith}
use lib.ListN.{length, length-append}
use lib.Dec.{eqb, ltb}
use Rattle.proto_field.specs.Varint.{base}
use Rattle.proto_writer.specs.Varint.{digits_of, varint_bytes}
use Rattle.proto_field.specs.Tag.{wire_types, varint_type, length_type}
use Rattle.proto_writer.specs.Writer.{scalar, text, packed, nested, tag_bytes, head_bytes, part_bytes, varints_bytes, field_bytes}

either-most : (t : Bool) (a b : List ℕ) (most : ℕ) → length a ≤ most → length b ≤ most → length (cond t a b) ≤ most
either-most true a b most p q = p
either-most false a b most p q = q

digits-most : (k v : ℕ) → length (digits_of k v) ≤ k + 1
digits-most zero v = omega arith
digits-most (suc k) v =
    either-most (ltb v base) (v ∷ []) ((v % base + base) ∷ digits_of k (v / base)) (suc k + 1) (omega arith) (omega (arith, digits-most k (v / base)))

varint-most : (v : ℕ) → length (varint_bytes v) ≤ 10
unfolding varint_bytes
varint-most v = digits-most 9 v

varints-most : (vs : List ℕ) → length (varints_bytes vs) ≤ 10 * length vs
varints-most [] = omega arith
varints-most (v ∷ vs) = rw length-append (omega (arith, varint-most v, varints-most vs))

-- a field left out is no longer than one that is written
left_out : (t : Bool) (bytes : List ℕ) (most : ℕ) → length bytes ≤ most → length (cond t [] bytes) ≤ most
left_out t bytes most h = either-most t [] bytes most (omega arith) h

part-most : (n : ℕ) (l : List ℕ) → length (part_bytes n l) ≤ length (tag_bytes n length_type) + 10 + length l
unfolding part_bytes head_bytes
part-most n l = rw (length-append, length-append) (omega (arith, varint-most (length l)))

pub scalar-most : (n v : ℕ) → length (field_bytes (scalar n v)) ≤ length (tag_bytes n varint_type) + 10
unfolding field_bytes
scalar-most n v = left_out (eqb v 0) _ _ (rw length-append (omega (arith, varint-most v)))

pub text-most : (n : ℕ) (l : List ℕ) → length (field_bytes (text n l)) ≤ length (tag_bytes n length_type) + 10 + length l
unfolding field_bytes
text-most n l = left_out (eqb (length l) 0) _ _ (part-most n l)

pub nested-most : (n : ℕ) (l : List ℕ) → length (field_bytes (nested n l)) ≤ length (tag_bytes n length_type) + 10 + length l
unfolding field_bytes
nested-most n l = part-most n l

pub packed-most : (n : ℕ) (vs : List ℕ) → length (field_bytes (packed n vs)) ≤ length (tag_bytes n length_type) + 10 + 10 * length vs
unfolding field_bytes
packed-most n vs = left_out (eqb (length vs) 0) _ _ (omega (arith, part-most n (varints_bytes vs), varints-most vs))

-- the tag of any field, and that of one that fits a byte
pub tag-most : (n wire : ℕ) → length (tag_bytes n wire) ≤ 10
unfolding tag_bytes
tag-most n wire = varint-most _

pub tag_small : (n wire : ℕ) → ltb (n * wire_types + wire) base ≡ true → length (tag_bytes n wire) ≡ 1
unfolding tag_bytes varint_bytes
tag_small n wire e = rw e
