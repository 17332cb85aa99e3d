-- Laws of escaped bytes, and of writing them by runs of plain ones.
use Prim.Native.Nat.{ℕ, ◌+◌, ◌-◌, ◌*◌, ◌<◌, ◌≤◌, zero-le}
use mathlib.Core.Path.{◌≡◌, refl, sym, ap, ◌∙◌}
use mathlib.Core.List.{List, [], ◌∷◌, ◌++◌, append_assoc, append-nil}
use mathlib.Core.Bool.{true, false}
use native.Mathlib.Nat.{add_assoc, add-sub_cancel_left}
use native.Mathlib.Numerals.{add-one}
use native.Mathlib.Omega.{arith}
use lib.ListN.{length, take, drop, get_or, set, length-append, length-drop, take-append-drop, drop_of_length-le}
use lib.Seq.{drop-cons, drop-drop, take_all, sets}
use lib.Dec.{lit≤}
use Rattle.wire.specs.Scan.{any_in_range, Copied}
use Rattle.wire.proofs.Runs.{any-first, part-long, part_none, part_length, part-stored}
use Rattle.wire.proofs.Stores.{sets-append}
use Rattle.classic_frame.specs.declared.mark.Kind.{Kind}
use Rattle.classic_frame.specs.declared.mark.Kind.TheVariants.{Start, End, Escape, Plain}
use Rattle.classic_frame.specs.Mark.{start_mark, end_mark, escape_mark, kind_of, is_mark}
use Rattle.classic_frame.specs.Frame.{code_for, escaped_by, escaped_of, header_of, framed}
use Rattle.classic_frame.proofs.Marks.{clear-plain, unmarked-plain, mark-escaped}
use Rattle.classic_writer.specs.Writer.{Left}

-- one byte as a frame has it
abbrev pub unit : ℕ → List ℕ
unit b = escaped_by (kind_of b) b

-- .. that is no mark
pub plain-unit : (b : ℕ) → is_mark b ≡ false → unit b ≡ b ∷ []
plain-unit b e = rw (unmarked-plain (kind_of b) e)

-- the escaped rest of a list: its first byte, and the rest after it
pub rest-step : (l : List ℕ) (i : ℕ) → i < length l → escaped_of (drop i l) ≡ unit (get_or l i 0) ++ escaped_of (drop (i + 1) l)
unfolding escaped_of
rest-step l i h = rw (drop-cons l i 0 h, add-one)

pub rest_end : (l : List ℕ) (i : ℕ) → length l ≤ i → escaped_of (drop i l) ≡ []
unfolding escaped_of
rest_end l i h = rw (drop_of_length-le l h)

escaped-append : (xs ys : List ℕ) → escaped_of (xs ++ ys) ≡ escaped_of xs ++ escaped_of ys
unfolding escaped_of
escaped-append [] ys = refl
escaped-append (x ∷ xs) ys = rw (escaped-append xs ys, append_assoc)

-- each byte takes two bytes at most
unit-most : (k : Kind) (b : ℕ) → length (escaped_by k b) ≤ 2
unit-most Start b = lit≤ tt
unit-most End b = lit≤ tt
unit-most Escape b = lit≤ tt
unit-most Plain b = lit≤ tt

escaped-most : (bs : List ℕ) → length (escaped_of bs) ≤ 2 * length bs
unfolding escaped_of
escaped-most [] = zero-le
escaped-most (b ∷ bs) = rw length-append (omega (arith, unit-most (kind_of b) b, escaped-most bs))

-- .. and one at least
unit-least : (k : Kind) (b : ℕ) → 1 ≤ length (escaped_by k b)
unit-least Start b = lit≤ tt
unit-least End b = lit≤ tt
unit-least Escape b = lit≤ tt
unit-least Plain b = lit≤ tt

escaped-least : (bs : List ℕ) → length bs ≤ length (escaped_of bs)
unfolding escaped_of
escaped-least [] = zero-le
escaped-least (b ∷ bs) = rw length-append (omega (arith, unit-least (kind_of b) b, escaped-least bs))

-- ---- a frame in its parts

module _ (s : ℕ) (p : List ℕ) (high low : ℕ) where
  pub frame-parts : framed s (p ++ (high ∷ low ∷ [])) ≡ header_of s ++ (escaped_of p ++ (unit high ++ (unit low ++ (end_mark ∷ []))))
  unfolding framed escaped_of
  frame-parts = rw (escaped-append p (high ∷ low ∷ [])) (simp (append_assoc, append-nil))

  pub frame-length : length (framed s (p ++ (high ∷ low ∷ []))) ≡ length (escaped_of p) + (length (unit high) + (length (unit low) + 5))
  frame-length = rw frame-parts (simp length-append (omega arith))

  pub frame-most : length (framed s (p ++ (high ∷ low ∷ []))) ≤ 9 + 2 * length p
  frame-most = omega (arith, frame-length, escaped-most p, unit-most (kind_of high) high, unit-most (kind_of low) low)

  -- the stores, part by part
  pub frame-sets : (o : List ℕ) → sets o 0 (framed s (p ++ (high ∷ low ∷ [])))
      ≡ set
      (sets (sets (sets (sets o 0 (header_of s)) 4 (escaped_of p)) (4 + length (escaped_of p)) (unit high))
      (4 + length (escaped_of p) + length (unit high)) (unit low))
      (4 + length (escaped_of p) + length (unit high) + length (unit low)) end_mark
  frame-sets o = rw frame-parts (rw (sets-append o 0 (header_of s), sets-append _ _ (escaped_of p), sets-append _ _ (unit high), sets-append _ _ (unit low)))

-- ---- writing by runs

-- plain bytes are written as they are
escaped-run : (xs ys : List ℕ) → any_in_range start_mark escape_mark xs ≡ false → escaped_of (xs ++ ys) ≡ xs ++ escaped_of ys
unfolding escaped_of
escaped-run [] ys e = refl
escaped-run (x ∷ xs) ys e =
    let k = any-first start_mark escape_mark x xs e in
    rw (clear-plain x k.0, escaped-run xs ys k.1)

escaped-part : (bytes : List ℕ) (i k : ℕ) → any_in_range start_mark escape_mark (take k (drop i bytes)) ≡ false
    → escaped_of (drop i bytes) ≡ take k (drop i bytes) ++ escaped_of (drop (i + k) bytes)
escaped-part bytes i k e =
    rw (take-append-drop k (drop i bytes), drop-drop k i bytes) at (escaped-run (take k (drop i bytes)) (drop k (drop i bytes)) e)

pub left_here : {bytes out : List ℕ} {at i : ℕ} → i ≤ length bytes → Left bytes out at i out at i
left_here h = record { from = omega arith; within = h; size = refl; stored = refl }

pub left-then : {bytes o₀ : List ℕ} {a₀ i₀ : ℕ} {o₁ : List ℕ} {a₁ i₁ : ℕ} {o₂ : List ℕ} {a₂ i₂ : ℕ}
    → Left bytes o₀ a₀ i₀ o₁ a₁ i₁ → Left bytes o₁ a₁ i₁ o₂ a₂ i₂ → Left bytes o₀ a₀ i₀ o₂ a₂ i₂
left-then x y = record { from = omega (arith, x.from, y.from); within = y.within; size = y.size ∙ x.size; stored = y.stored ∙ x.stored }

pub left-byte : (bytes out : List ℕ) (at i : ℕ) → i < length bytes
    → Left bytes out at i (sets out at (unit (get_or bytes i 0))) (at + length (unit (get_or bytes i 0))) (i + 1)
left-byte bytes out at i h =
    record {
      from = omega arith;
      within = omega arith;
      size = rw (rest-step bytes i h, length-append, add_assoc);
      stored = rw (rest-step bytes i h) (sym (sets-append out at (unit (get_or bytes i 0)) (escaped_of (drop (i + 1) bytes))));
    }

-- .. that is a mark
pub left-mark : (bytes out : List ℕ) (at i : ℕ) → i < length bytes → is_mark (get_or bytes i 0) ≡ true
    → Left bytes out at i (sets out at (escape_mark ∷ code_for (get_or bytes i 0) ∷ [])) (at + 2) (i + 1)
left-mark bytes out at i h m = rw (mark-escaped (get_or bytes i 0) m) at (left-byte bytes out at i h)

module _ (bytes : List ℕ) (i : ℕ) (h : i ≤ length bytes) where
  -- what is left is no longer than its escaped bytes
  pub rest-short : length (take (length bytes - i) (drop i bytes)) ≤ length (escaped_of (drop i bytes))
  rest-short = rw (take_all (length bytes - i) (drop i bytes) (rw (length-drop i bytes) (omega arith))) (escaped-least (drop i bytes))

  pub left-run : {out now : List ℕ} {at k : ℕ} → Copied start_mark escape_mark (take (length bytes - i) (drop i bytes)) at out k now
      → Left bytes out at i now (at + (i + k - i)) (i + k)
  left-run {out} {now} {at} {k} copied =
      let clear = copied.clear in
      let split = escaped-part bytes i k (part_none start_mark escape_mark bytes i (length bytes) k h (omega arith) clear) in
      let size = part_length start_mark escape_mark bytes i (length bytes) k h (omega arith) clear in
      record {
        from = omega arith;
        within = omega (arith, part-long start_mark escape_mark bytes i (length bytes) k h (omega arith) clear);
        size = rw (add-sub_cancel_left i k, split, length-append, size, add_assoc);
        stored =
            rw (part-stored start_mark escape_mark bytes i (length bytes) k h (omega arith) clear copied, add-sub_cancel_left i k, split)
            (sym (rw size at (sets-append out at (take k (drop i bytes)) (escaped_of (drop (i + k) bytes)))));
      }

pub left_end : {bytes o : List ℕ} {a : ℕ} {o' : List ℕ} {a' j : ℕ} → Left bytes o a 0 o' a' j → length bytes ≤ j
    → (a' ≡ a + length (escaped_of bytes)) × (o' ≡ sets o a (escaped_of bytes))
left_end {bytes} {o} {a} {o'} {a'} {j} x h =
    let e = rest_end bytes j h in
    (omega (arith, x.size, ap length e), rw e at x.stored)
