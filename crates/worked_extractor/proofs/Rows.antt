-- A table that holds as a whole holds at each row.
use mathlib.Core.Path.{◌≡◌, sym, ap, ◌∙◌}
use mathlib.Core.List.{List, map, Memᴰ}

-- two functions that agree on a whole list agree at each of its elements
pub agree : {A B : Type 0} (f g : A → B) (a : A) {l : List A} → map f l ≡ map g l → Memᴰ a l → f a ≡ g a
agree f g a same (Memᴰ.head {x = x} {xs = xs} here) = let h : f x ≡ g x = cc in ap f here ∙ h ∙ sym (ap g here)
agree f g a same (Memᴰ.tail {x = x} {xs = xs} there) = let t : map f xs ≡ map g xs = cc in agree f g a t there
