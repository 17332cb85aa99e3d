-- Laws of runs of bytes outside a range.
use Prim.Native.Nat.{ℕ, ◌+◌, ◌-◌, ◌<◌, ◌≤◌, zero-le}
use mathlib.Core.Path.{◌≡◌, refl, sym, ap, subst, ◌∙◌}
use mathlib.Core.List.{List, [], ◌∷◌, ◌++◌}
use mathlib.Core.Bool.{Bool, true, false, cond, true≢false}
use native.Mathlib.Nat.{add-sub_cancel_left}
use native.Mathlib.Numerals.{add-one}
use native.Mathlib.Omega.{arith}
use lib.ListN.{length, take, drop, set, get_or, drop_of_length-le, length-take, length-drop}
use lib.Seq.{sets, length-sets, drop-cons, take_all, take-suc, take-add, take-take, length-take-le}
use lib.Dec.{eqb, ltb, leb}
use borrow.Author.Tests.{ne_eqb, ltb-true, ltb-false, leb-false}
use Rattle.wire.specs.Scan.{in_range, any_in_range, Clear, Copied}
use Rattle.wire.proofs.Stores.{sets_then}

-- a byte outside the range is none of its bytes
pub out_of_range : (first last m b : ℕ) → in_range first last b ≡ false → first ≤ m → m ≤ last → eqb b m ≡ false
unfolding in_range
out_of_range first last m b e lo hi = ne_eqb b m (λ r. go (ltb b first) refl e r)
  where
    go : (t : Bool) → ltb b first ≡ t → cond t false (leb b last) ≡ false → b ≡ m → ⊥
    go true p q r = omega (arith, r, ltb-true b first p)
    go false p q r = omega (arith, r, leb-false b last q)

cond-true : (f : Bool) → cond f true true ≡ true
cond-true true = refl
cond-true false = refl

module _ (first last : ℕ) where
  -- the first byte of a run that is clear, and the others
  pub any-first : (b : ℕ) (bs : List ℕ) → any_in_range first last (b ∷ bs) ≡ false → (in_range first last b ≡ false) × (any_in_range first last bs ≡ false)
  unfolding any_in_range
  any-first b bs e = go (in_range first last b) refl e
    where
      go : (t : Bool) → in_range first last b ≡ t → cond t true (any_in_range first last bs) ≡ false → (in_range first last b ≡ false) × (any_in_range first last bs ≡ false)
      go true p q = absurd (true≢false q)
      go false p q = (p, q)

  any_step : (l : List ℕ) (i : ℕ) → i < length l
      → any_in_range first last (drop i l) ≡ cond (in_range first last (get_or l i 0)) true (any_in_range first last (drop (i + 1) l))
  unfolding any_in_range
  any_step l i h = rw (drop-cons l i 0 h, add-one)

  any-end : (l : List ℕ) (i : ℕ) → length l ≤ i → any_in_range first last (drop i l) ≡ false
  unfolding any_in_range
  any-end l i h = rw (drop_of_length-le l h)

  any_append : (xs ys : List ℕ) → any_in_range first last xs ≡ false → any_in_range first last ys ≡ false → any_in_range first last (xs ++ ys) ≡ false
  unfolding any_in_range
  any_append [] ys e f = f
  any_append (x ∷ xs) ys e f = let r = any-first x xs e in rw r.0 (any_append xs ys r.1 f)

  -- a run is not clear where its end is not
  any-later : (xs ys : List ℕ) → any_in_range first last ys ≡ true → any_in_range first last (xs ++ ys) ≡ true
  unfolding any_in_range
  any-later [] ys e = e
  any-later (x ∷ xs) ys e = rw (any-later xs ys e) (cond-true (in_range first last x))

cond-false : (f : Bool) → cond f true false ≡ f
cond-false true = refl
cond-false false = refl

-- ---- the count of clear bytes

module _ {first last : ℕ} {l : List ℕ} where
  pub clear_none : Clear first last l 0
  unfolding any_in_range
  clear_none = record { within = zero-le; none = refl }

  module _ {i : ℕ} (k : Clear first last l i) where
    -- no byte is left
    pub clear-all : length l ≤ i → Clear first last l (length l)
    clear-all h = let e : i ≡ length l = omega (arith, k.within) in subst (λ (n : ℕ). Clear first last l n) e k

    -- one byte more
    pub clear-byte : i < length l → in_range first last (get_or l i 0) ≡ false → Clear first last l (i + 1)
    unfolding any_in_range
    clear-byte h e =
        record { within = omega arith; none = rw (add-one, take-suc l i 0 h) (any_append first last (take i l) (get_or l i 0 ∷ []) k.none (rw e)) }

    -- one block more, up to e
    pub clear-block : (e : ℕ) → i ≤ e → e ≤ length l → any_in_range first last (take (e - i) (drop i l)) ≡ false → Clear first last l e
    clear-block e h w q =
        let n : i + (e - i) ≡ e = omega arith in
        record {
          within = w;
          none =
              subst (λ (m : ℕ). any_in_range first last (take m l) ≡ false) n
              (rw (take-add i (e - i) l) (any_append first last (take i l) (take (e - i) (drop i l)) k.none q));
        }

-- clear bytes end before the first that is not
pub clear-short : {first last : ℕ} {l : List ℕ} {i : ℕ} → any_in_range first last l ≡ true → Clear first last l i → i < length l
clear-short {first} {last} {l} {i} e k = go (ltb i (length l)) refl
  where
    go : (t : Bool) → ltb i (length l) ≡ t → i < length l
    go true p = ltb-true i (length l) p
    go false p = absurd (true≢false (sym e ∙ rw (take_all i l (ltb-false i (length l) p)) at k.none))

-- the first e bytes of a run are not clear where some after the first i are not
pub any-up-to : (first last : ℕ) (l : List ℕ) (i e : ℕ) → i ≤ e → any_in_range first last (take (e - i) (drop i l)) ≡ true → any_in_range first last (take e l) ≡ true
any-up-to first last l i e h q =
    let n : i + (e - i) ≡ e = omega arith in
    subst (λ (m : ℕ). any_in_range first last (take m l) ≡ true) n (rw (take-add i (e - i) l) (any-later first last (take i l) (take (e - i) (drop i l)) q))

-- ---- the clear bytes that are copied

module _ {first last : ℕ} {run : List ℕ} {at : ℕ} {l : List ℕ} where
  pub copied_none : Copied first last run at l 0 l
  copied_none = record { clear = clear_none; stored = refl }

  pub copied-length : {n : ℕ} {after : List ℕ} → Copied first last run at l n after → length after ≡ length l
  copied-length {n} k = rw k.stored (length-sets l at (take n run))

  module _ {i : ℕ} {now : List ℕ} (k : Copied first last run at l i now) where
    -- no byte is left
    pub copied-all : length run ≤ i → Copied first last run at l (length run) now
    copied-all h = let e : i ≡ length run = omega (arith, k.clear.within) in subst (λ (n : ℕ). Copied first last run at l n now) e k

    -- what follows, up to e, once it is stored too
    pub copied_more : (e : ℕ) → i ≤ e → Clear first last run e → {after : List ℕ} → after ≡ sets now (at + i) (take (e - i) (drop i run)) → Copied first last run at l e after
    copied_more e h c q =
        let n : i + (e - i) ≡ e = omega arith in
        record {
          clear = c;
          stored =
              q ∙ rw k.stored (sets_then l at (at + i) (take i run) (take (e - i) (drop i run)) (rw (length-take-le i run k.clear.within)))
              ∙ ap (sets l at) (sym (take-add i (e - i) run) ∙ ap (λ (m : ℕ). take m run) n);
        }

    -- one byte more
    pub copied_byte : i < length run → in_range first last (get_or run i 0) ≡ false → Copied first last run at l (i + 1) (set now (at + i) (get_or run i 0))
    copied_byte h e = copied_more (i + 1) (omega arith) (clear-byte k.clear h e) (rw (add-sub_cancel_left i 1, drop-cons run i 0 h))

    -- the clear bytes of all that follows
    pub copied-rest : {n : ℕ} {after : List ℕ} → Copied first last (take (length run - i) (drop i run)) (at + i) now n after → Copied first last run at l (i + n) after
    copied-rest {n} r =
        let all : take (length run - i) (drop i run) ≡ drop i run = take_all (length run - i) (drop i run) (omega (arith, length-drop i run)) in
        let c : Clear first last (drop i run) n = rw all at r.clear in
        copied_more (i + n) (omega arith)
        (clear-block k.clear (i + n) (omega arith) (omega (arith, c.within, length-drop i run, k.clear.within)) (rw (add-sub_cancel_left i n) c.none))
        (r.stored ∙ rw (all, add-sub_cancel_left i n))

-- the same of the first e bytes of a run, as long as there are no more
module _ {first last : ℕ} {run : List ℕ} {e n : ℕ} (h : n ≤ e) where
  pub clear-into : Clear first last run n → Clear first last (take e run) n
  clear-into k = record { within = omega (arith, k.within, length-take e run); none = rw (take-take n e run h) k.none }

  module _ {at : ℕ} {l after : List ℕ} where
    pub copied-into : Copied first last run at l n after → Copied first last (take e run) at l n after
    copied-into k = record { clear = clear-into k.clear; stored = k.stored ∙ rw (take-take n e run h) }

    pub copied-out : Copied first last (take e run) at l n after → Copied first last run at l n after
    copied-out k =
        record {
          clear = record { within = omega (arith, k.clear.within, length-take e run); none = rw (take-take n e run h) at k.clear.none };
          stored = k.stored ∙ rw (take-take n e run h);
        }

-- ---- a part of the bytes, from i to e, of which the first k are clear

module _ (first last : ℕ) (bytes : List ℕ) (i e k : ℕ) (h : i ≤ e) (w : e ≤ length bytes) (clear : Clear first last (take (e - i) (drop i bytes)) k) where
  pub part-long : k ≤ e - i
  part-long = rw (length-take-le (e - i) (drop i bytes) (rw (length-drop i bytes) (omega arith))) at clear.within

  pub part_none : any_in_range first last (take k (drop i bytes)) ≡ false
  part_none = rw (take-take k (e - i) (drop i bytes) part-long) at clear.none

  pub part_length : length (take k (drop i bytes)) ≡ k
  part_length = length-take-le k (drop i bytes) (rw (length-drop i bytes) (omega (arith, part-long)))

  pub part-stored : {at : ℕ} {l after : List ℕ} → Copied first last (take (e - i) (drop i bytes)) at l k after → after ≡ sets l at (take k (drop i bytes))
  part-stored copied = copied.stored ∙ rw (take-take k (e - i) (drop i bytes) part-long)

-- ---- the loop that tests a whole run

-- what is found, or is in the rest, is in the run
pub record Seeking (first last : ℕ) (l : List ℕ) (f : Bool) (i : ℕ) : Type 0 where
  pub within : i ≤ length l
  pub rest : cond f true (any_in_range first last (drop i l)) ≡ any_in_range first last l

module _ {first last : ℕ} {l : List ℕ} {f : Bool} {i : ℕ} (inv : Seeking first last l f i) where
  pub seek-end : length l ≤ i → f ≡ any_in_range first last l
  seek-end h = sym (cond-false f) ∙ rw (any-end first last l i h) at inv.rest

  module _ {g : Bool} (h : i < length l) where
    pub seek_hit : in_range first last (get_or l i 0) ≡ true → g ≡ true → Seeking first last l g (i + 1)
    seek_hit e p = record { within = omega arith; rest = rw p (sym (cond-true f) ∙ rw (any_step first last l i h, e) at inv.rest) }

    pub seek-miss : in_range first last (get_or l i 0) ≡ false → g ≡ f → Seeking first last l g (i + 1)
    seek-miss e p = record { within = omega arith; rest = rw p (rw (any_step first last l i h, e) at inv.rest) }
