-- Laws of the digits of a number: the turns of the loops that count and write them.
use Prim.Native.Nat.{ℕ, zero, suc, ◌+◌, ◌-◌, ◌/◌, ◌%◌, ◌≤◌, ◌<◌}
use mathlib.Core.Path.{◌≡◌, refl}
use mathlib.Core.List.{[], ◌∷◌}
use mathlib.Core.Bool.{Bool, true, false, cond}
use native.Mathlib.Omega.{arith}
use lib.ListN.{length}
use lib.Dec.{ltb}
use borrow.Author.Tests.{lt-ltb, le-ltb}
use Rattle.proto_field.proofs.Varints.{top, less_one}
use Rattle.proto_writer.specs.Varint.{digits_of, varint_bytes}

pub digits-short : (k v : ℕ) → v < 128 → digits_of k v ≡ v ∷ []
digits-short zero v h = refl
digits-short (suc k) v h = rw (lt-ltb v 128 h)

pub digits_long : (k v : ℕ) → v < top k → 128 ≤ v → digits_of k v ≡ (v % 128 + 128) ∷ digits_of (k - 1) (v / 128)
digits_long zero v t h = absurd (let z : 2 ≤ 0 = omega arith in omega arith)
digits_long (suc k) v t h = rw (le-ltb v 128 h, less_one k)

pub top-next : (k v : ℕ) → v < top k → 128 ≤ v → v / 128 < top (k - 1)
top-next zero v t h = absurd (let z : 2 ≤ 0 = omega arith in omega arith)
top-next (suc k) v t h = rw (less_one k) (omega arith)

pub digits-count : (k v : ℕ) → (1 ≤ length (digits_of k v)) × (length (digits_of k v) ≤ k + 1)
digits-count zero v = omega arith
digits-count (suc k) v = counted (ltb v 128) (digits-count k (v / 128))
  where
    counted : (b : Bool) → (1 ≤ length (digits_of k (v / 128))) × (length (digits_of k (v / 128)) ≤ k + 1)
        → (1 ≤ length (cond b (v ∷ []) ((v % 128 + 128) ∷ digits_of k (v / 128)))) × (length (cond b (v ∷ []) ((v % 128 + 128) ∷ digits_of k (v / 128))) ≤ suc k + 1)
    counted true h = omega arith
    counted false h = omega arith

-- a varint has one to ten bytes
pub varint-count : (v : ℕ) → (1 ≤ length (varint_bytes v)) × (length (varint_bytes v) ≤ 10)
unfolding varint_bytes
varint-count v = digits-count 9 v
