-- A run copied by blocks.
use Prim.Native.Nat.{ℕ, suc, ◌+◌, ◌-◌, ◌≤◌, ◌<◌}
use native.Mathlib.Omega.{arith}
use native.Mathlib.Nat.{not-suc-le-zero, le_of_suc-le-suc}
use mathlib.Core.Path.{◌≡◌, refl, sym, ap, ◌∙◌}
use mathlib.Core.List.{List, [], ◌∷◌}
use lib.ListN.{length, set, take, drop, length-take, length-drop, take-append-drop}
use lib.Seq.{sets, set-set, set_comm, take-add, take-length, length-take-le}
use Rattle.wire.proofs.Stores.{sets_then}

-- a store before a run
set_before : (l : List ℕ) (i j a : ℕ) (run : List ℕ) → i < j → set (sets l j run) i a ≡ sets (set l i a) j run
set_before l i j a [] h = refl
set_before l i j a (b ∷ run) h =
    set_before (set l j b) i (suc j) a run (omega arith)
    ∙ ap (λ (m : List ℕ). sets m (suc j) run) (set_comm l j i b a (λ (e : j ≡ i). omega arith))

-- a run over one that is no longer
over : (l : List ℕ) (i : ℕ) (xs ys : List ℕ) → length xs ≤ length ys → sets (sets l i xs) i ys ≡ sets l i ys
over l i [] ys h = refl
over l i (x ∷ xs) [] h = absurd (not-suc-le-zero h)
over l i (x ∷ xs) (y ∷ ys) h =
    ap (λ (m : List ℕ). sets m (suc i) ys) (set_before (set l i x) i (suc i) y xs (omega arith) ∙ ap (λ (m : List ℕ). sets m (suc i) xs) (set-set l i x y))
    ∙ over (set l i y) (suc i) xs ys (le_of_suc-le-suc h)

-- one more block
pub block_more : (l : List ℕ) (at i n : ℕ) (run : List ℕ) → i ≤ length run
    → sets (sets l at (take i run)) (at + i) (take n (drop i run)) ≡ sets l at (take (i + n) run)
block_more l at i n run h =
    sets_then l at (at + i) (take i run) (take n (drop i run)) (ap (λ (k : ℕ). at + k) (sym (length-take-le i run h)))
    ∙ ap (sets l at) (sym (take-add i n run))

-- the last, which may begin inside what is there
pub block_last : (l : List ℕ) (at k i : ℕ) (run : List ℕ) → k ≤ i → i ≤ length run
    → sets (sets l at (take i run)) (at + k) (drop k run) ≡ sets l at run
block_last l at k i run below inside =
    let whole : i ≡ k + (i - k) = omega arith in
    let short : length (take (i - k) (drop k run)) ≤ length (drop k run) = rw (length-take, length-drop) (omega arith) in
    ap (λ (n : ℕ). sets (sets l at (take n run)) (at + k) (drop k run)) whole
    ∙ ap (λ (m : List ℕ). sets m (at + k) (drop k run)) (sym (block_more l at k (i - k) run (omega arith)))
    ∙ over (sets l at (take k run)) (at + k) (take (i - k) (drop k run)) (drop k run) short
    ∙ sets_then l at (at + k) (take k run) (drop k run) (ap (λ (n : ℕ). at + n) (sym (length-take-le k run (omega arith))))
    ∙ ap (sets l at) (take-append-drop k run)

-- a run's end as a part of it
pub rest-block : (k : ℕ) (run : List ℕ) → take (length run - k) (drop k run) ≡ drop k run
rest-block k run = ap (λ (n : ℕ). take n (drop k run)) (sym (length-drop k run)) ∙ take-length (drop k run)
