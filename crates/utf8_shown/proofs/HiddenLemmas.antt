-- Laws of characters that are not shown.
use Prim.Native.Nat.{ℕ, ◌+◌, ◌≤◌, ◌<◌}
use mathlib.Core.Path.{◌≡◌, refl, ◌∙◌}
use mathlib.Core.Bool.{Bool, true, false, ◌&&◌, ◌||◌}
use mathlib.Core.List.{List, [], ◌∷◌}
use native.Mathlib.Numerals.{add-one}
use native.Mathlib.Omega.{arith}
use lib.ListN.{length, get_or, drop, drop_of_length-le}
use lib.Seq.{drop-cons}
use Rattle.utf8.specs.Table.{within}
use Rattle.utf8_shown.specs.Shown.{hidden_rows, is_hidden, hidden_place, hidden_by}

-- ---- by three bytes
-- tests as the rows have them, and as the code has them: f is E2, g and h are 80 and 81 behind it
joined : (a b c d f g h x y z : Bool)
    → ((a || b) || ((c || d) || (f && ((g && (x || y)) || (h && z)))))
    ≡ (a || (b || (c || (d || ((f && (g && x)) || ((f && (g && y)) || (f && (h && z))))))))
joined true b c d f g h x y z = refl
joined false true c d f g h x y z = refl
joined false false true d f g h x y z = refl
joined false false false true f g h x y z = refl
joined false false false false false g h x y z = refl
joined false false false false true true h true y z = refl
joined false false false false true true h false true z = refl
joined false false false false true true h false false z = refl
joined false false false false true false h x y z = refl

and-true : (a : Bool) → (a && true) ≡ a
and-true true = refl
and-true false = refl

or-false : (a : Bool) → (a || false) ≡ a
or-false true = refl
or-false false = refl

three : (a b c : ℕ) (s : List ℕ) → hidden_by a b c ≡ is_hidden (a ∷ b ∷ c ∷ s)
unfolding is_hidden hidden_rows
three a b c s = simp (and-true, or-false) (joined (within (0x00, 0x1F) a) (within (0x7F, 0x7F) a) (within (0xC2, 0xC2) a && within (0x80, 0x9F) b) (within (0xD8, 0xD8) a && within (0x9C, 0x9C) b) (within (0xE2, 0xE2) a) (within (0x80, 0x80) b) (within (0x81, 0x81) b) (within (0x8E, 0x8F) c) (within (0xA8, 0xAE) c) (within (0xA6, 0xA9) c))

-- a byte that is not there is in none of their ranges
pub hidden-read : (s : List ℕ) → 0 < length s → hidden_by (get_or s 0 0) (get_or s 1 0) (get_or s 2 0) ≡ is_hidden s
unfolding is_hidden hidden_rows within
hidden-read [] h = absurd (omega arith)
hidden-read (a ∷ []) h = three a 0 0 [] ∙ refl
hidden-read (a ∷ b ∷ []) h = three a b 0 [] ∙ refl
hidden-read (a ∷ b ∷ c ∷ s) h = three a b c s

-- ---- the walk from a place on
module _ (s : List ℕ) (at : ℕ) where
  pub hidden-here : at < length s → is_hidden (drop at s) ≡ true → at + hidden_place (drop at s) ≡ at
  unfolding hidden_place
  hidden-here h e = let d = drop-cons s at 0 h in rw (d, rw d at e) (omega arith)

  pub hidden-later : at < length s → is_hidden (drop at s) ≡ false → at + hidden_place (drop at s) ≡ at + 1 + hidden_place (drop (at + 1) s)
  unfolding hidden_place
  hidden-later h e = let d = drop-cons s at 0 h in rw (d, rw d at e, add-one) (omega arith)

  pub hidden-end : length s ≤ at → at + hidden_place (drop at s) ≡ at
  unfolding hidden_place
  hidden-end h = rw (drop_of_length-le s h) (omega arith)
