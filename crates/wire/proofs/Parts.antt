-- Laws of a part of a list: how long it is, and that it is lent on and comes back.
use Prim.Native.Nat.{ℕ, ◌+◌, ◌-◌, ◌≤◌}
use native.Mathlib.Omega.{arith}
use native.Mathlib.Nat.{add_assoc}
use mathlib.Core.Path.{◌≡◌, sym, ap, ◌∙◌}
use mathlib.Core.List.{List, ◌++◌, append_assoc}
use lib.ListN.{length, take, drop, length-take, length-drop, take-append-drop}
use lib.Seq.{sets, sets-eq, take_all, take-take, drop-drop, take-add, length-take-le, drop-append-le}
use borrow.Rule.Slice.PartMut.{mid_of, put_mid}

-- the k elements from index a on are k, where there are as many
pub length_part : (l : List ℕ) (a k : ℕ) → a + k ≤ length l → length (take k (drop a l)) ≡ k
length_part l a k h = simp (length-take, length-drop) (omega arith)

-- all that follows a place, lent
pub rest-lent : (l : List ℕ) (a : ℕ) → take (length l - a) (drop a l) ≡ drop a l
rest-lent l a = take_all (length l - a) (drop a l) (omega (arith, length-drop a l))

-- what follows place m in the first k elements, and the rest
after : (x : List ℕ) (m k : ℕ) → m ≤ k → k ≤ length x → drop m (take k x) ++ drop k x ≡ drop m x
after x m k hm hk =
    sym (drop-append-le m (take k x) (drop k x) (rw (length-take-le k x hk) hm)) ∙ ap (drop m) (take-append-drop k x)

-- a run stored at `at` in the part of d that begins at a and has k elements is the run stored at a + at in d
pub sets-part : (d : List ℕ) (a k at : ℕ) (s : List ℕ) → a + k ≤ length d → at + length s ≤ k
    → put_mid a k d (sets (mid_of a k d) at s) ≡ sets d (a + at) s
sets-part d a k at s hd hs =
    let hx : k ≤ length (drop a d) = simp length-drop (omega arith) in
    let hk : at + length s ≤ length (take k (drop a d)) = rw (length-take-le k (drop a d) hx) hs in
    rw (sets-eq s (take k (drop a d)) at hk, sets-eq s d (a + at) (omega arith))
    (simp (append_assoc, take-take at k (drop a d) (omega arith), after (drop a d) (at + length s) k hs hx)
    (simp (append_assoc, take-add, drop-drop, add_assoc)))
