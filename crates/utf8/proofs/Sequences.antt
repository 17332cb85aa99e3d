-- Laws of the table: what a row describes, and that a byte begins sequences of one row only.
use Prim.Native.Nat.{ℕ, zero, suc, ◌+◌, ◌≤◌, ◌<◌, zero-le}
use mathlib.Core.Path.{◌≡◌, refl, sym, ap, ◌∙◌}
use mathlib.Core.Bool.{Bool, true, false, cond, ◌&&◌, ◌||◌, false≢true, and-false}
use mathlib.Core.List.{List, [], ◌∷◌, ◌++◌, map}
use denote.Bor.{Bor}
use native.Mathlib.Numerals.{add-one}
use native.Mathlib.Omega.{arith}
use lib.ListN.{length, get_or, get_or-map, take, drop, length-take, take-append-drop, drop_of_length-le}
use lib.Seq.{take-nil, drop-cons}
use lib.Dec.{leb, ltb, eqb}
use borrow.Author.Tests.{ltb-true, leb-true, le-leb, lt-leb, eqb-true, eqb-false}
use Rattle.wire.proofs.Tests.{and_left, and_right, or-true}
use Rattle.utf8.specs.declared.table.Range.{Range}
use Rattle.utf8.specs.Table.{rows, within, row_describes, any_describes, described, begins, no_range, lead_row, row_of}
use Rattle.utf8.specs.WellFormed.{sequence_at}

-- ---- bytes that begin with a sequence of a row
pub begins-describes : (r : List Range) (s : List ℕ) → begins r s ≡ true → row_describes r (take (length r) s) ≡ true
begins-describes [] s e = refl
begins-describes (a ∷ r) [] e = absurd (false≢true e)
begins-describes (a ∷ r) (b ∷ s) e = rw (and_left (within a b) (begins r s) e) (begins-describes r s (and_right (within a b) (begins r s) e))

pub describes-begins : (r : List Range) (q s : List ℕ) → row_describes r q ≡ true → begins r (q ++ s) ≡ true
describes-begins [] [] s e = refl
describes-begins [] (b ∷ q) s e = absurd (false≢true e)
describes-begins (a ∷ r) [] s e = absurd (false≢true e)
describes-begins (a ∷ r) (b ∷ q) s e = rw (and_left (within a b) (row_describes r q) e) (describes-begins r q s (and_right (within a b) (row_describes r q) e))

pub describes-length : (r : List Range) (q : List ℕ) → row_describes r q ≡ true → length q ≡ length r
describes-length [] [] e = refl
describes-length [] (b ∷ q) e = absurd (false≢true e)
describes-length (a ∷ r) [] e = absurd (false≢true e)
describes-length (a ∷ r) (b ∷ q) e = ap suc (describes-length r q (and_right (within a b) (row_describes r q) e))

pub begins-within : (r : List Range) (s : List ℕ) → begins r s ≡ true → length r ≤ length s
begins-within [] s e = zero-le
begins-within (a ∷ r) [] e = absurd (false≢true e)
begins-within (a ∷ r) (b ∷ s) e = let h = begins-within r s (and_right (within a b) (begins r s) e) in omega arith

pub begins-cut : (r : List Range) (s : List ℕ) → length s < length r → begins r s ≡ false
begins-cut [] s h = absurd (omega arith)
begins-cut (a ∷ r) [] h = refl
begins-cut (a ∷ r) (b ∷ s) h = rw (begins-cut r s (omega arith)) (and-false (within a b))

-- ---- the loop over the ranges of a row: what is left of it, and of the bytes
module _ (r : List Range) (s : List ℕ) (i : ℕ) where
  pub begins-all : length r ≤ i → begins (drop i r) (drop i s) ≡ true
  begins-all h = rw (drop_of_length-le r h)

  pub begins-short : i < length r → length s ≤ i → begins (drop i r) (drop i s) ≡ false
  begins-short h k = rw (drop-cons r i no_range h, drop_of_length-le s k)

  module _ (h : i < length r) (k : i < length s) where
    step : begins (drop i r) (drop i s) ≡ (within (get_or r i no_range) (get_or s i 0) && begins (drop (i + 1) r) (drop (i + 1) s))
    step = rw (drop-cons r i no_range h, drop-cons s i 0 k, add-one)

    pub begins-next : within (get_or r i no_range) (get_or s i 0) ≡ true → begins (drop i r) (drop i s) ≡ begins (drop (i + 1) r) (drop (i + 1) s)
    begins-next e = step ∙ rw e

    pub begins-not : within (get_or r i no_range) (get_or s i 0) ≡ false → begins (drop i r) (drop i s) ≡ false
    begins-not e = step ∙ rw e

-- ---- the rows' first ranges rise, so a byte lies in one of them at most
abbrev pub first : List Range → Range
first r = get_or r 0 no_range

abbrev rising : ℕ → List (List Range) → Bool
rising n [] = true
rising n (r ∷ rs) = leb n (first r).0 && (leb (first r).0 (first r).1 && rising (suc (first r).1) rs)

rows-rise : rising 0 rows ≡ true
unfolding rows
rows-rise = refl

module _ (n : ℕ) (r : List Range) (rs : List (List Range)) (e : rising n (r ∷ rs) ≡ true) where
  rise-first : n ≤ (first r).0
  rise-first = leb-true n (first r).0 (and_left (leb n (first r).0) _ e)

  rise-last : (first r).0 ≤ (first r).1
  rise-last = leb-true (first r).0 (first r).1 (and_left (leb (first r).0 (first r).1) _ (and_right (leb n (first r).0) _ e))

  rise-rest : rising (suc (first r).1) rs ≡ true
  rise-rest = and_right (leb (first r).0 (first r).1) _ (and_right (leb n (first r).0) _ e)

below : (r : Range) (b : ℕ) → b < r.0 → within r b ≡ false
unfolding within
below r b h = rw (lt-leb r.0 b h)

up_to : (r : Range) (b : ℕ) → within r b ≡ true → b ≤ r.1
unfolding within
up_to r b e = leb-true b r.1 (and_right (leb r.0 b) (leb b r.1) e)

-- a described sequence begins in the first range
describes-first : (r : List Range) (b : ℕ) (q : List ℕ) → within (first r) b ≡ false → row_describes r (b ∷ q) ≡ false
describes-first [] b q e = refl
describes-first (a ∷ r) b q e = rw e

none_below : (n : ℕ) (rs : List (List Range)) (b : ℕ) (q : List ℕ) → rising n rs ≡ true → b < n → any_describes rs (b ∷ q) ≡ false
none_below n [] b q e h = refl
none_below n (r ∷ rs) b q e h =
    let f = rise-first n r rs e in
    let l = rise-last n r rs e in
    rw (describes-first r b q (below (first r) b (omega arith))) (none_below (suc (first r).1) rs b q (rise-rest n r rs e) (omega arith))

one_left : (a b : Bool) → (a || b) ≡ true → b ≡ false → a ≡ true
one_left true b e f = refl
one_left false b e f = absurd (false≢true (sym f ∙ e))

only_row : (n : ℕ) (rs : List (List Range)) (b : ℕ) (q : List ℕ) → rising n rs ≡ true → any_describes rs (b ∷ q) ≡ true → row_describes (lead_row rs b) (b ∷ q) ≡ true
only_row n [] b q e d = absurd (false≢true d)
only_row n (r ∷ rs) b q e d = by_first (within (first r) b) refl (λ k. only_row (suc (first r).1) rs b q (rise-rest n r rs e) k)
  where
    by_first : (t : Bool) → within (first r) b ≡ t → (any_describes rs (b ∷ q) ≡ true → row_describes (lead_row rs b) (b ∷ q) ≡ true)
        → row_describes (cond t r (lead_row rs b)) (b ∷ q) ≡ true
    by_first true w h =
        let l = up_to (first r) b w in
        one_left (row_describes r (b ∷ q)) (any_describes rs (b ∷ q)) d (none_below (suc (first r).1) rs b q (rise-rest n r rs e) (omega arith))
    by_first false w h = h (rw (describes-first r b q w) at d)

-- a row that a byte begins is one of the table
lead-any : (rs : List (List Range)) (b : ℕ) (q : List ℕ) → (length q ≡ 0 → ⊥) → row_describes (lead_row rs b) q ≡ true → any_describes rs q ≡ true
lead-any [] b [] n d = absurd (n refl)
lead-any [] b (x ∷ q) n d = absurd (false≢true d)
lead-any (r ∷ rs) b q n d = by_first (within (first r) b) d (λ k. lead-any rs b q n k)
  where
    by_first : (t : Bool) → row_describes (cond t r (lead_row rs b)) q ≡ true → (row_describes (lead_row rs b) q ≡ true → any_describes rs q ≡ true)
        → (row_describes r q || any_describes rs q) ≡ true
    by_first true k h = rw k
    by_first false k h = or-true (row_describes r q) (any_describes rs q) (h k)

-- ---- the loop over the rows
nine : length rows ≡ 9
unfolding rows
nine = refl

module _ (b i : ℕ) (h : i < 9) where
  pub row_here : within (first (get_or rows i [])) b ≡ true → lead_row (drop i rows) b ≡ get_or rows i []
  row_here e = rw (drop-cons rows i [] (omega (arith, nine)), e)

  pub row-later : within (first (get_or rows i [])) b ≡ false → lead_row (drop i rows) b ≡ lead_row (drop (i + 1) rows) b
  row-later e = rw (drop-cons rows i [] (omega (arith, nine)), e, add-one)

pub row-none : (b i : ℕ) → 9 ≤ i → lead_row (drop i rows) b ≡ []
row-none b i h =
    let k : length rows ≤ i = omega (arith, nine) in
    rw (drop_of_length-le rows k)

-- a row of the table, as the code lends it
pub row-at : (lent : List (Bor (List Range))) (i : ℕ) → map (λ r. r.now) lent ≡ rows → (get_or lent i (record { ref_ptr = (0, 0); now = [] })).now ≡ get_or rows i []
row-at lent i e = sym (get_or-map (λ r. r.now) lent i (record { ref_ptr = (0, 0); now = [] })) ∙ ap (λ l. get_or l i []) e

-- no row is empty
none_empty : List (List Range) → Bool
none_empty [] = true
none_empty (r ∷ rs) = ltb 0 (length r) && none_empty rs

long-each : (rs : List (List Range)) (i : ℕ) → none_empty rs ≡ true → i < length rs → 0 < length (get_or rs i [])
unfolding none_empty
long-each [] i e h = absurd (let z : i < 0 = h in omega arith)
long-each (r ∷ rs) zero e h = ltb-true 0 (length r) (and_left (ltb 0 (length r)) (none_empty rs) e)
long-each (r ∷ rs) (suc i) e h = long-each rs i (and_right (ltb 0 (length r)) (none_empty rs) e) (omega arith)

pub row-long : (i : ℕ) → i < 9 → 0 < length (get_or rows i [])
unfolding rows none_empty
row-long i h = long-each rows i refl (omega arith)

-- ---- the sequence that a string begins with
by_cond : (t : Bool) (n : ℕ) → (cond t n 0 ≡ 0 → ⊥) → t ≡ true
by_cond true n h = refl
by_cond false n h = absurd (h refl)

pub sequence-within : (s : List ℕ) → sequence_at s ≤ length s
unfolding sequence_at
sequence-within s = by (begins (row_of (get_or s 0 0)) s) refl
  where
    by : (t : Bool) → begins (row_of (get_or s 0 0)) s ≡ t → cond t (length (row_of (get_or s 0 0))) 0 ≤ length s
    by true e = begins-within (row_of (get_or s 0 0)) s e
    by false e = zero-le

-- it is described
pub sequence-described : (s : List ℕ) → (sequence_at s ≡ 0 → ⊥) → described (take (sequence_at s) s) ≡ true
unfolding sequence_at described row_of
sequence-described s h =
    let b = get_or s 0 0 in
    let r = lead_row rows b in
    let e : begins r s ≡ true = by_cond (begins r s) (length r) h in
    let n : (length r ≡ 0 → ⊥) = λ z. h (rw e z) in
    let w = begins-within r s e in
    rw e (lead-any rows b (take (length r) s) (λ z. n (sym-length r s w ∙ z)) (begins-describes r s e))
  where
    sym-length : (r : List Range) (s : List ℕ) → length r ≤ length s → length r ≡ length (take (length r) s)
    sym-length r s w = omega (arith, length-take (length r) s)

nothing-described : described [] ≡ false
unfolding described rows
nothing-described = refl

-- a described sequence is the one that a string begins with
pub described-sequence : (q rest : List ℕ) → described q ≡ true → (sequence_at (q ++ rest) ≡ length q) × (1 ≤ length q)
unfolding sequence_at described row_of
described-sequence [] rest d = absurd (false≢true (sym nothing-described ∙ d))
described-sequence (b ∷ q) rest d =
    let k : row_describes (lead_row rows b) (b ∷ q) ≡ true = only_row 0 rows b q rows-rise d in
    (rw (describes-begins (lead_row rows b) (b ∷ q) rest k) (sym (describes-length (lead_row rows b) (b ∷ q) k)), omega arith)

pub nothing-at-end : (n : ℕ) → described (take n []) ≡ false
nothing-at-end n = rw (take-nil n) nothing-described

-- where there is none, no first bytes are one
pub none-described : (s : List ℕ) → sequence_at s ≡ 0 → (n : ℕ) → described (take n s) ≡ false
none-described s z n = by (described (take n s)) refl
  where
    by : (t : Bool) → described (take n s) ≡ t → described (take n s) ≡ false
    by false e = e
    by true e =
        let k = described-sequence (take n s) (drop n s) e in
        let a : sequence_at (take n s ++ drop n s) ≡ sequence_at s = ap sequence_at (take-append-drop n s) in
        absurd (omega (arith, k.0, k.1, a, z))

-- .. and the other way round
pub none-at : (s : List ℕ) → ((n : ℕ) → described (take n s) ≡ false) → sequence_at s ≡ 0
none-at s h = by (eqb (sequence_at s) 0) refl
  where
    by : (t : Bool) → eqb (sequence_at s) 0 ≡ t → sequence_at s ≡ 0
    by true e = eqb-true (sequence_at s) 0 e
    by false e = absurd (false≢true (sym (h (sequence_at s)) ∙ sequence-described s (eqb-false (sequence_at s) 0 e)))

pub nothing-first : sequence_at [] ≡ 0
nothing-first = none-at [] nothing-at-end

-- a byte of ASCII is a sequence
ascii-within : (b : ℕ) → b < 128 → within (0x00, 0x7F) b ≡ true
unfolding within
ascii-within b h = rw (le-leb 0 b zero-le, le-leb b 127 (omega arith))

pub ascii-sequence : (b : ℕ) (s : List ℕ) → b < 128 → sequence_at (b ∷ s) ≡ 1
unfolding sequence_at row_of rows
ascii-sequence b s h = simp (ascii-within b h)

-- the sequence by the row of its first byte
pub sequence-by : (s : List ℕ) (r : List Range) → r ≡ row_of (get_or s 0 0) → begins r s ≡ true → length r ≡ sequence_at s
unfolding sequence_at
sequence-by s r e b = rw (← e, b)

pub sequence-none : (s : List ℕ) (r : List Range) → r ≡ row_of (get_or s 0 0) → begins r s ≡ false → sequence_at s ≡ 0
unfolding sequence_at
sequence-none s r e b = rw (← e, b)

pub sequence-no_row : (s : List ℕ) → row_of (get_or s 0 0) ≡ [] → sequence_at s ≡ 0
unfolding sequence_at
sequence-no_row s e = rw e

-- ---- a sequence of a row that is known by its place in the table

over : (r : Range) (b : ℕ) → r.1 < b → within r b ≡ false
unfolding within
over r b h = rw (lt-leb b r.1 h) (and-false (leb r.0 b))

from : (r : Range) (b : ℕ) → within r b ≡ true → r.0 ≤ b
unfolding within
from r b e = leb-true r.0 b (and_left (leb r.0 b) (leb b r.1) e)

-- a byte that leads a later row lies above those before it
lead-least : (n : ℕ) (rs : List (List Range)) (i b : ℕ) → rising n rs ≡ true → i < length rs → within (first (get_or rs i [])) b ≡ true → n ≤ b
lead-least n [] i b e h w = absurd (let z : i < 0 = h in omega arith)
lead-least n (r ∷ rs) zero b e h w = omega (arith, rise-first n r rs e, from (first r) b w)
lead-least n (r ∷ rs) (suc i) b e h w =
    omega (arith, rise-first n r rs e, rise-last n r rs e, lead-least (suc (first r).1) rs i b (rise-rest n r rs e) (omega arith) w)

lead_is : (n : ℕ) (rs : List (List Range)) (i b : ℕ) → rising n rs ≡ true → i < length rs → within (first (get_or rs i [])) b ≡ true → lead_row rs b ≡ get_or rs i []
lead_is n [] i b e h w = absurd (let z : i < 0 = h in omega arith)
lead_is n (r ∷ rs) zero b e h w = rw w
lead_is n (r ∷ rs) (suc i) b e h w =
    let l = lead-least (suc (first r).1) rs i b (rise-rest n r rs e) (omega arith) w in
    rw (over (first r) b (omega arith)) (lead_is (suc (first r).1) rs i b (rise-rest n r rs e) (omega arith) w)

begins-first : (r : List Range) (s : List ℕ) → 0 < length r → begins r s ≡ true → within (first r) (get_or s 0 0) ≡ true
begins-first [] s h e = absurd (omega arith)
begins-first (a ∷ r) [] h e = absurd (false≢true e)
begins-first (a ∷ r) (b ∷ s) h e = and_left (within a b) (begins r s) e

-- it begins with the sequence that the row describes
pub row-decides : (i : ℕ) (r : List Range) (s : List ℕ) → i < 9 → r ≡ get_or rows i [] → 0 < length r → begins r s ≡ true → length r ≡ sequence_at s
unfolding row_of
row-decides i r s h e n b =
    let w = begins-first r s n b in
    sequence-by s r (e ∙ sym (lead_is 0 rows i (get_or s 0 0) rows-rise (omega (arith, nine)) (rw (← e) w))) b

-- the same of a row that the code lends
pub row-read : (lent : List (Bor (List Range))) (i n : ℕ) (s : List ℕ) → map (λ r. r.now) lent ≡ rows → i < 9 → length (get_or rows i []) ≡ n
    → begins (get_or lent i (record { ref_ptr = (0, 0); now = [] })).now s ≡ true → (n ≡ sequence_at s) × (0 < n)
row-read lent i n s e h l b =
    let long = row-long i h in
    (sym l ∙ row-decides i (get_or rows i []) s h refl long (rw (row-at lent i e) at b), omega (arith, l, long))
