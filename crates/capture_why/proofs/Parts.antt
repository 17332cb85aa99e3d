-- Parts of some bytes, where there may be fewer.
use Prim.Native.Nat.{ℕ, ◌-◌, ◌≤◌, min}
use mathlib.Core.Path.{◌≡◌, refl, sym, ap, ◌∙◌}
use mathlib.Core.Bool.{Bool, true, false}
use mathlib.Core.List.{List}
use native.Mathlib.Omega.{arith}
use lib.Dec.{leb, ltb}
use lib.ListN.{length, take, drop, length-drop}
use lib.Seq.{take_all}
use borrow.Author.Tests.{leb-true, leb-false}
use Rattle.capture_judge.proofs.Walking.{drop-smaller}

-- all from a place on
pub drop-within : (l : List ℕ) (at start : ℕ) → start ≡ min (length l) at → drop start l ≡ drop at l
drop-within l at start e = ap (λ (n : ℕ). drop n l) e ∙ drop-smaller l at (ltb (length l) at) refl

-- so many of them
take_within : (l : List ℕ) (n size : ℕ) → size ≡ min (length l) n → take size l ≡ take n l
take_within l n size e = by (leb (length l) n) refl
  where
    by : (t : Bool) → leb (length l) n ≡ t → take size l ≡ take n l
    by true k =
        let h = leb-true (length l) n k in
        let s : length l ≤ size = omega (arith, e, h) in
        take_all size l s ∙ sym (take_all n l h)
    by false k =
        let h = leb-false (length l) n k in
        let s : size ≡ n = omega (arith, e, h) in
        ap (λ (m : ℕ). take m l) s

-- so many from a place on
pub part-within : (l : List ℕ) (at start n size : ℕ) → start ≡ min (length l) at → size ≡ min (length l - start) n → take size (drop start l) ≡ take n (drop at l)
part-within l at start n size e f =
    take_within (drop start l) n size (omega (arith, f, length-drop start l)) ∙ ap (take n) (drop-within l at start e)
