-- A list filled entry by entry with what a function makes of another list's entries.
use Prim.Native.Nat.{ℕ, ◌+◌, ◌≤◌, ◌<◌}
use native.Mathlib.Numerals.{add-one}
use mathlib.Core.Path.{◌≡◌, refl, ap, ◌∙◌}
use mathlib.Core.List.{List, [], ◌∷◌, ◌++◌, map}
use lib.ListN.{length, get_or, take, set}
use lib.Seq.{take-suc, take-suc-set, take_all}

module _ {A B : Type 0} (f : A → B) where
  map-append : (xs ys : List A) → map f (xs ++ ys) ≡ map f xs ++ map f ys
  map-append [] ys = refl
  map-append (x ∷ xs) ys = ap (λ (l : List B). f x ∷ l) (map-append xs ys)

  module _ (to : List B) (from : List A) (i : ℕ) (filled : take i to ≡ map f (take i from)) where
    -- one entry more
    pub mapped-more : (d : A) → i < length from → i < length to → take (i + 1) (set to i (f (get_or from i d))) ≡ map f (take (i + 1) from)
    mapped-more d h k =
        rw (add-one, take-suc-set to i (f (get_or from i d)) k, take-suc from i d h, filled, map-append (take i from) (get_or from i d ∷ []))

    -- all of them
    pub mapped_end : length from ≤ i → take i to ≡ map f from
    mapped_end h = filled ∙ ap (map f) (take_all i from h)
