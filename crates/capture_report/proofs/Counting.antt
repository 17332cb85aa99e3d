-- Laws of counts and sums.
use Prim.Native.Nat.{ℕ, zero, suc, ◌+◌, ◌<◌}
use native.Mathlib.Omega.{arith}
use mathlib.Core.Path.{◌≡◌, refl, ap, ◌∙◌}
use mathlib.Core.List.{List, [], ◌∷◌}
use mathlib.Core.Bool.{Bool, true, false, cond}
use lib.ListN.{length, get_or, set}
use Rattle.wire.specs.Bytes.{bit}
use Rattle.wire.specs.Those.{those}
use Rattle.capture_report.specs.Costs.{sum_of}

length-cond : {A : Type 0} (b : Bool) (x : A) (l : List A) → length (cond b (x ∷ l) l) ≡ bit b + length l
length-cond true x l = omega arith
length-cond false x l = omega arith

pub those-cons : {A : Type 0} (test : A → Bool) (x : A) (l : List A) → length (those test (x ∷ l)) ≡ bit (test x) + length (those test l)
those-cons test x l = length-cond (test x) x (those test l)

sum-cond : {A : Type 0} (weight : A → ℕ) (b : Bool) (x : A) (l : List A) → sum_of weight (cond b (x ∷ l) l) ≡ cond b (weight x) 0 + sum_of weight l
sum-cond weight true x l = refl
sum-cond weight false x l = omega arith

pub sum-cons : {A : Type 0} (weight : A → ℕ) (test : A → Bool) (x : A) (l : List A)
    → sum_of weight (those test (x ∷ l)) ≡ cond (test x) (weight x) 0 + sum_of weight (those test l)
sum-cons weight test x l = sum-cond weight (test x) x (those test l)

-- a count is a sum of bits
pub counted : {A : Type 0} (test : A → Bool) (l : List A) → length (those test l) ≡ sum_of (λ (x : A). bit (test x)) l
counted test [] = refl
counted test (x ∷ l) = those-cons test x l ∙ ap (λ (n : ℕ). bit (test x) + n) (counted test l)

-- a store changes one part of a sum
pub sum-set : {A : Type 0} (f : A → ℕ) (l : List A) (i : ℕ) (x d : A) → i < length l → sum_of f (set l i x) + f (get_or l i d) ≡ sum_of f l + f x
sum-set f [] i x d h = absurd (omega arith)
sum-set f (y ∷ l) zero x d h = omega arith
sum-set f (y ∷ l) (suc i) x d h =
    let e = sum-set f l i x d (omega arith) in
    omega (arith, e)

-- two sums with the same parts
pub sum_same : {A : Type 0} (f g : A → ℕ) (d : A) (l : List A) → ((i : ℕ) → i < length l → f (get_or l i d) ≡ g (get_or l i d)) → sum_of f l ≡ sum_of g l
sum_same f g d [] h = refl
sum_same f g d (x ∷ l) h =
    let e = sum_same f g d l (λ i u. h (suc i) (omega arith)) in
    let z : f x ≡ g x = h 0 (omega arith) in
    omega (arith, e, z)
