-- Laws of ACK and NACK packets.
use Prim.Native.Nat.{ℕ}
use native.Mathlib.Omega.{arith}
use mathlib.Core.Path.{◌≡◌, refl}
use mathlib.Core.List.{List, [], ◌∷◌}
use mathlib.Core.Bool.{◌&&◌, and-true, and-false}
use lib.ListN.{length, drop, get_or}
use lib.Dec.{eqb}
use borrow.Author.Tests.{ne_eqb}
use Rattle.ble_packet.specs.Reader.{same_bytes}

-- four bytes after the first two, and no more: byte by byte
pub tail-bytes : (p : List ℕ) (a b c d : ℕ)
    → same_bytes (drop 2 p) (a ∷ b ∷ c ∷ d ∷ [])
    ≡ (eqb (length p) 6 && (eqb (get_or p 2 0) a && (eqb (get_or p 3 0) b && (eqb (get_or p 4 0) c && eqb (get_or p 5 0) d))))
tail-bytes [] a b c d = refl
tail-bytes (x ∷ []) a b c d = refl
tail-bytes (x ∷ y ∷ []) a b c d = refl
tail-bytes (x ∷ y ∷ e ∷ []) a b c d = simp and-false
tail-bytes (x ∷ y ∷ e ∷ f ∷ []) a b c d = simp and-false
tail-bytes (x ∷ y ∷ e ∷ f ∷ g ∷ []) a b c d = simp and-false
tail-bytes (x ∷ y ∷ e ∷ f ∷ g ∷ h ∷ []) a b c d = simp and-true
tail-bytes (x ∷ y ∷ e ∷ f ∷ g ∷ h ∷ i ∷ p) a b c d =
    simp (and-false, ne_eqb (length (x ∷ y ∷ e ∷ f ∷ g ∷ h ∷ i ∷ p)) 6 (λ z. omega arith))
