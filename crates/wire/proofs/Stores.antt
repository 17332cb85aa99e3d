-- Laws of stores: one after another, and what they leave before and behind them.
use Prim.Native.Nat.{ℕ, suc, ◌+◌, ◌-◌, ◌≤◌, ◌<◌}
use mathlib.Core.Path.{◌≡◌, refl, sym, ap, ◌∙◌}
use mathlib.Core.List.{List, [], ◌∷◌, ◌++◌, append_assoc, append-nil}
use native.Mathlib.Nat.{add-zero, add-suc, suc-add}
use native.Mathlib.Numerals.{add-one}
use native.Mathlib.Omega.{arith}
use lib.ListN.{length, take, drop, set, get_or, drop_of_length-le, length-append, length-take, length-drop}
use borrow.Rule.Slice.PartMut.{put_mid}
use lib.Seq.{sets, drop-drop, sets-eq, drop-cons, drop-set-lt, drop-set-add, take-set-le, take-add, take_at, drop_at, take-append_seam, length-take-le}

-- two runs, one after the other
pub sets-append : {A : Type 0} (l : List A) (i : ℕ) (xs ys : List A) → sets l i (xs ++ ys) ≡ sets (sets l i xs) (i + length xs) ys
sets-append l i [] ys = rw add-zero
sets-append l i (x ∷ xs) ys = sets-append (set l i x) (suc i) xs ys ∙ rw (suc-add, add-suc)

-- the same, with the place where the second begins
pub sets_then : {A : Type 0} (l : List A) (i j : ℕ) (xs ys : List A) → j ≡ i + length xs → sets (sets l i xs) j ys ≡ sets l i (xs ++ ys)
sets_then l i j xs ys e = rw e (sym (sets-append l i xs ys))

-- a run stored in the part of a list that it fills is a run stored at its place
pub stored_mid : {A : Type 0} (l run : List A) (at n : ℕ) → n ≡ length run → at + length run ≤ length l → put_mid at n l run ≡ sets l at run
stored_mid l run at n e h = rw (e, sets-eq run l at h, drop-drop (length run) at l) (sym (append_assoc (take at l) run (drop (at + length run) l)))

-- a run copied byte by byte: what is left of it after one byte
pub sets-step : (l run : List ℕ) (at i : ℕ) → i < length run
    → sets (set l (at + i) (get_or run i 0)) (at + (i + 1)) (drop (i + 1) run) ≡ sets l (at + i) (drop i run)
sets-step l run at i h = rw (drop-cons run i 0 h, add-one, add-suc)

-- .. and at its end
pub sets_end : (l run : List ℕ) (at i : ℕ) → length run ≤ i → sets l at (drop i run) ≡ l
sets_end l run at i h = rw (drop_of_length-le run h)

-- a run stored over all of a list
pub sets-all : (l run : List ℕ) {after : List ℕ} → after ≡ sets l 0 run → length run ≡ length l → after ≡ run
sets-all l run q e = q ∙ sets-eq run l 0 (omega (arith, e)) ∙ rw (drop_of_length-le l {i = 0 + length run} (omega (arith, e))) (append-nil run)

-- ---- what is read where a run was stored, or beside it

-- what was stored from the first element on is what the first elements are
pub first-bytes : {A : Type 0} (out bytes : List A) → length bytes ≤ length out → take (length bytes) (sets out 0 bytes) ≡ bytes
first-bytes {A} out bytes h =
    let e : sets out 0 bytes ≡ bytes ++ drop (0 + length bytes) out = sets-eq bytes out 0 (omega arith) in
    ap (take (length bytes)) e ∙ take-append_seam bytes (drop (0 + length bytes) out)

-- behind the run
pub drop-sets : (k : ℕ) (l : List ℕ) (a : ℕ) (run : List ℕ) → a + length run ≤ k → drop k (sets l a run) ≡ drop k l
drop-sets k l a [] h = refl
drop-sets k l a (v ∷ run) h = drop-sets k (set l a v) (suc a) run (omega arith) ∙ drop-set-lt k l a v (omega arith)

part-set : (n k : ℕ) (l : List ℕ) (a v : ℕ) → k + n ≤ a → take n (drop k (set l a v)) ≡ take n (drop k l)
part-set n k l a v h =
    let e : a ≡ k + (a - k) = omega arith in
    ap (λ (x : ℕ). take n (drop k (set l x v))) e
    ∙ ap (take n) (drop-set-add k l (a - k) v)
    ∙ take-set-le n (drop k l) (a - k) v (omega arith)

-- before the run
pub part-sets : (n k : ℕ) (l : List ℕ) (a : ℕ) (run : List ℕ) → k + n ≤ a → take n (drop k (sets l a run)) ≡ take n (drop k l)
part-sets n k l a [] h = refl
part-sets n k l a (v ∷ run) h = part-sets n k (set l a v) (suc a) run (omega arith) ∙ part-set n k l a v h

-- from place k up to the end of a run that was stored `at` behind it
pub part-stored : (d : List ℕ) (k at : ℕ) (s : List ℕ) → k + at + length s ≤ length d
    → take (at + length s) (drop k (sets d (k + at) s)) ≡ take at (drop k d) ++ s
part-stored d k at s h =
    let rest : List ℕ = drop (k + at + length s) d in
    let mid : List ℕ = take at (drop k d) in
    ap (λ (l : List ℕ). take (at + length s) (drop k l)) (sets-eq s d (k + at) h)
    ∙ ap (λ (x : List ℕ). take (at + length s) (drop k (x ++ s ++ rest))) (take-add k at d)
    ∙ simp append_assoc
    (ap (take (at + length s)) (drop_at (take k d) (mid ++ (s ++ rest)) k (length-take-le k d (omega arith)))
    ∙ ap (take (at + length s)) (sym (append_assoc mid s rest))
    ∙ take_at (mid ++ s) rest (at + length s) (simp (length-append, length-take, length-drop) (omega arith)))
