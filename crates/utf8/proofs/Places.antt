-- Laws of the place of the first sequence that no row describes.
use Prim.Native.Nat.{ℕ, zero, suc, ◌+◌, ◌-◌, ◌≤◌, ◌<◌, zero-le}
use mathlib.Core.Path.{◌≡◌, refl, sym, ap, ◌∙◌}
use mathlib.Core.Bool.{Bool, true, false, cond, true≢false}
use mathlib.Core.List.{List, [], ◌∷◌, ◌++◌, append_assoc, append-nil}
use native.Mathlib.Numerals.{add-one}
use native.Mathlib.Omega.{arith}
use lib.ListN.{length, get_or, take, drop, length-append, length-drop, take-append-drop, drop_of_length-le}
use lib.Seq.{take-length, take-add, take-take, drop-drop, drop-cons, get_or-drop, drop-append_seam, length-take-le}
use lib.Dec.{eqb, ltb, leb}
use lib.Bits.{bit_and, bit_or, or_lt, or_add_and, and_le_l, and_le_r}
use borrow.Author.Tests.{eq-eqb, ne_eqb, eqb-true, eqb-false, ltb-true, ltb-false, leb-true, leb-false, le-leb, lt-leb}
use Rattle.wire.specs.Bytes.{AllBytes}
use Rattle.wire.specs.Scan.{in_range, any_in_range, Clear}
use Rattle.wire.proofs.ByteLists.{bytes_take}
use Rattle.wire.proofs.Parts.{rest-lent}
use Rattle.wire.proofs.Runs.{any-first, clear-block, Seeking, seek_hit, seek-miss}
use Rattle.utf8.specs.Table.{described}
use Rattle.std.specs.Prelude.{Option, Some, None, MatchOption}
use Rattle.utf8.specs.WellFormed.{WellFormed, empty, more, Tells, sequence_at, bad_in, bad_place, Passes}
use Rattle.utf8.specs.Claims.{FirstBad, FindsFirstBad, OnlyOneFirstBad, WholeExactlyIfWellFormed}
use Rattle.utf8.proofs.Sequences.{sequence-within, sequence-described, described-sequence, nothing-at-end, nothing-first, none-described, none-at, ascii-sequence}

-- ---- one sequence
bad-none : (s : List ℕ) (fuel : ℕ) → sequence_at s ≡ 0 → bad_in fuel s ≡ 0
bad-none s zero e = refl
bad-none s (suc fuel) e = rw (eq-eqb (sequence_at s) 0 e)

bad-next : (s : List ℕ) (fuel : ℕ) → (sequence_at s ≡ 0 → ⊥) → bad_in (suc fuel) s ≡ sequence_at s + bad_in fuel (drop (sequence_at s) s)
bad-next s fuel n = rw (ne_eqb (sequence_at s) 0 n)

-- ---- it is found
found_in : (fuel : ℕ) (s : List ℕ) → length s ≤ fuel → FirstBad s (bad_in fuel s)
found_in zero [] h = record { inside = zero-le; before = empty; none = nothing-at-end }
found_in zero (b ∷ s) h = absurd (let z : 1 ≤ 0 = omega arith in omega arith)
found_in (suc fuel) s h = by (eqb (sequence_at s) 0) refl (λ l. found_in fuel (drop (sequence_at s) s) l)
  where
    by : (t : Bool) → eqb (sequence_at s) 0 ≡ t
        → (length (drop (sequence_at s) s) ≤ fuel → FirstBad (drop (sequence_at s) s) (bad_in fuel (drop (sequence_at s) s)))
        → FirstBad s (cond t 0 (sequence_at s + bad_in fuel (drop (sequence_at s) s)))
    by true e found = record { inside = zero-le; before = empty; none = none-described s (eqb-true (sequence_at s) 0 e) }
    by false e found =
        let k = sequence_at s in
        let z = eqb-false k 0 e in
        let w = sequence-within s in
        let p = bad_in fuel (drop k s) in
        let f = found (omega (arith, length-drop k s)) in
        record {
          inside = omega (arith, f.inside, length-drop k s);
          before = more (take k s) (take p (drop k s)) (take-add k p s) (sequence-described s z) f.before;
          none = λ n. rw (← (drop-drop p k s)) (f.none n);
        }

pub finds-first-bad : FindsFirstBad
unfolding FindsFirstBad bad_place
finds-first-bad s = found_in (length s) s (omega arith)

-- ---- there is one only
one_in : {q : List ℕ} → WellFormed q → (rest : List ℕ) → ((n : ℕ) → described (take n rest) ≡ false) → (fuel : ℕ) → length (q ++ rest) ≤ fuel → bad_in fuel (q ++ rest) ≡ length q
one_in empty rest h fuel k = bad-none rest fuel (none-at rest h)
one_in {q} (more a b e d w) rest h fuel k =
    let l = described-sequence a (b ++ rest) d in
    let j : q ++ rest ≡ a ++ (b ++ rest) = rw e (append_assoc a b rest) in
    let n : length (q ++ rest) ≡ length a + length (b ++ rest) = ap length j ∙ length-append a (b ++ rest) in
    let m : length q ≡ length a + length b = ap length e ∙ length-append a b in
    ap (bad_in fuel) j ∙ turn fuel a (b ++ rest) (length b) l.0 l.1 (λ f g. one_in w rest h f g) (omega arith) ∙ sym m
  where
    turn : (fuel : ℕ) (a t : List ℕ) (m : ℕ) → sequence_at (a ++ t) ≡ length a → 1 ≤ length a → ((f : ℕ) → length t ≤ f → bad_in f t ≡ m) → length a + length t ≤ fuel
        → bad_in fuel (a ++ t) ≡ length a + m
    turn zero a t m e o r k = absurd (let z : 1 ≤ 0 = omega arith in omega arith)
    turn (suc fuel) a t m e o r k =
        bad-next (a ++ t) fuel (λ z. omega (arith, e, z)) ∙ rw (e, drop-append_seam a t, r fuel (omega arith))

pub only-one-first-bad : OnlyOneFirstBad
unfolding OnlyOneFirstBad bad_place
only-one-first-bad s p f = sym (rw (take-append-drop p s, length-take-le p s f.inside) at (one_in f.before (drop p s) f.none (length s) (rw (take-append-drop p s) (omega arith))))

-- ---- well formed exactly if none is found
pub well-formed-whole : (s : List ℕ) → WellFormed s → bad_place s ≡ length s
unfolding bad_place
well-formed-whole s w = rw (append-nil s) at (one_in w [] nothing-at-end (length s) (rw (append-nil s) (omega arith)))

well-formed-before : (s : List ℕ) → WellFormed (take (bad_place s) s)
unfolding bad_place
well-formed-before s = (found_in (length s) s (omega arith)).before

pub whole-well-formed : (s : List ℕ) → bad_place s ≡ length s → WellFormed s
whole-well-formed s e = rw (e, take-length s) at (well-formed-before s)

pub whole-exactly-if-well-formed : WholeExactlyIfWellFormed
unfolding WholeExactlyIfWellFormed
whole-exactly-if-well-formed s = (well-formed-whole s, whole-well-formed s)

-- ---- what is passed at once
-- fuel that is enough makes no difference
enough : (s : List ℕ) (fuel : ℕ) → length s ≤ fuel → bad_in fuel s ≡ bad_place s
unfolding OnlyOneFirstBad
enough s fuel h = only-one-first-bad s (bad_in fuel s) (found_in fuel s h)

pub place_none : (s : List ℕ) → sequence_at s ≡ 0 → bad_place s ≡ 0
unfolding bad_place
place_none s e = bad-none s (length s) e

-- the first sequence, and what follows it
pub place-next : (s : List ℕ) → (sequence_at s ≡ 0 → ⊥) → bad_place s ≡ sequence_at s + bad_place (drop (sequence_at s) s)
place-next s n =
    let k = sequence_at s in
    sym (enough s (suc (length s)) (omega arith)) ∙ bad-next s (length s) n ∙ ap (λ (m : ℕ). k + m) (enough (drop k s) (length s) (omega (arith, length-drop k s)))

-- a sequence, or none
pub passes-sequence : (s : List ℕ) (n : ℕ) → n ≡ sequence_at s → Passes s n
passes-sequence s n e = record { inside = omega (arith, e, sequence-within s); none = λ z. place_none s (sym e ∙ z); rest = rw e (by (eqb (sequence_at s) 0) refl) }
  where
    by : (t : Bool) → eqb (sequence_at s) 0 ≡ t → bad_place s ≡ sequence_at s + bad_place (drop (sequence_at s) s)
    by true z = rw (eqb-true (sequence_at s) 0 z) (omega arith)
    by false z = place-next s (eqb-false (sequence_at s) 0 z)

-- a byte of ASCII
place-ascii : (b : ℕ) (s : List ℕ) → b < 128 → bad_place (b ∷ s) ≡ suc (bad_place s)
place-ascii b s h =
    let e = ascii-sequence b s h in
    let n = rw e at (place-next (b ∷ s) (λ z. omega (arith, e, z))) in
    omega (arith, n)

-- a byte that is not above ASCII
pub not-above : (b : ℕ) → b < 256 → in_range 128 255 b ≡ false → b < 128
unfolding in_range
not-above b h e = by (ltb b 128) refl
  where
    by : (t : Bool) → ltb b 128 ≡ t → b < 128
    by true k = ltb-true b 128 k
    by false k = absurd (omega (arith, leb-false b 255 (rw k at e)))

-- .. and one that is
above : (b : ℕ) → in_range 128 255 b ≡ true → 128 ≤ b
unfolding in_range
above b e = by (ltb b 128) refl e
  where
    by : (t : Bool) → ltb b 128 ≡ t → cond t false (leb b 255) ≡ true → 128 ≤ b
    by true k r = absurd (true≢false (sym r))
    by false k r = ltb-false b 128 k

-- ---- bytes that are joined
-- no less than each of them: o is both joined, a what they have in common
joined-least : (m o a j b : ℕ) → o + a ≡ j + b → a ≤ j → m ≤ b → m ≤ o
joined-least m o a j b e h k = omega (arith, e, h, k)

join-above : (j b : ℕ) → 128 ≤ b → leb 128 (bit_or j b) ≡ true
join-above j b h = le-leb 128 (bit_or j b) (joined-least 128 (bit_or j b) (bit_and j b) j b (or_add_and j b) (and_le_l j b) h)

join-ascii : (j b : ℕ) → b < 128 → leb 128 (bit_or j b) ≡ leb 128 j
join-ascii j b h = by (leb 128 j) refl
  where
    swapped : (o a j b : ℕ) → o + a ≡ j + b → o + a ≡ b + j
    swapped o a j b e = omega (arith, e)

    by : (t : Bool) → leb 128 j ≡ t → leb 128 (bit_or j b) ≡ t
    by true e = le-leb 128 (bit_or j b) (joined-least 128 (bit_or j b) (bit_and j b) b j (swapped (bit_or j b) (bit_and j b) j b (or_add_and j b)) (and_le_r j b) (leb-true 128 j e))
    by false e = lt-leb 128 (bit_or j b) (or_lt 7 j b (leb-false 128 j e) h)

-- one byte more is joined
pub seek-joined : {l : List ℕ} {i : ℕ} (j : ℕ) → Seeking 128 255 l (leb 128 j) i → i < length l → get_or l i 0 < 256 → Seeking 128 255 l (leb 128 (bit_or j (get_or l i 0))) (i + 1)
seek-joined {l} {i} j inv h byte = by (in_range 128 255 (get_or l i 0)) refl
  where
    by : (t : Bool) → in_range 128 255 (get_or l i 0) ≡ t → Seeking 128 255 l (leb 128 (bit_or j (get_or l i 0))) (i + 1)
    by true e = seek_hit inv h e (join-above j (get_or l i 0) (above (get_or l i 0) e))
    by false e = seek-miss inv h e (join-ascii j (get_or l i 0) (not-above (get_or l i 0) byte e))

-- a run of ASCII
place-run : (q s : List ℕ) → AllBytes q → any_in_range 128 255 q ≡ false → bad_place (q ++ s) ≡ length q + bad_place s
place-run [] s bytes e = omega arith
place-run (b ∷ q) s bytes e =
    let r = any-first 128 255 b q e in
    omega (arith, place-ascii b (q ++ s) (not-above b bytes.0 r.0), place-run q s bytes.1 r.1)

-- .. by a count of bytes
place-clear : (s : List ℕ) (n : ℕ) → AllBytes s → Clear 128 255 s n → bad_place s ≡ n + bad_place (drop n s)
place-clear s n bytes k =
    let run : bad_place s ≡ length (take n s) + bad_place (drop n s) = ap bad_place (sym (take-append-drop n s)) ∙ place-run (take n s) (drop n s) (bytes_take n s bytes) k.none in
    omega (arith, run, length-take-le n s k.within)

-- a byte of ASCII, and the run of it that follows
passes-ascii : (b : ℕ) (s : List ℕ) (n : ℕ) → AllBytes s → b < 128 → Clear 128 255 s n → Passes (b ∷ s) (suc n)
passes-ascii b s n bytes h k =
    record { inside = omega (arith, k.within); none = λ z. absurd (omega arith); rest = omega (arith, place-ascii b s h, place-clear s n bytes k) }

-- the bytes of a slice from a place on
pub all-bytes : (l : List ℕ) → ((i : ℕ) → get_or l i 0 < 256) → AllBytes l
all-bytes [] h = tt
all-bytes (b ∷ l) h = (h 0, all-bytes l (λ i. h (suc i)))

bytes_after : (s : List ℕ) (at : ℕ) → ((i : ℕ) → get_or s i 0 < 256) → AllBytes (drop at s)
bytes_after s at h = all-bytes (drop at s) (λ i. rw (get_or-drop at s i 0) (h (at + i)))

-- what stands at a place: a sequence that is told, or a run of ASCII
pub passes-told : (s : List ℕ) (at : ℕ) (told : Option ℕ) → at < length s → Tells told (sequence_at (take (length s - at) (drop at s)))
    → MatchOption told (bad_place (drop at s) ≡ 0) (λ n. Passes (drop at s) n × (0 < n))
passes-told s at None h e = place_none (drop at s) (rw (rest-lent s at) at e)
passes-told s at (Some n) h e = (passes-sequence (drop at s) n (e.0 ∙ ap sequence_at (rest-lent s at)), e.1)

module _ (s : List ℕ) (at n : ℕ) where
  pub passes-run : ((i : ℕ) → get_or s i 0 < 256) → at < length s → get_or s at 0 < 128 → Clear 128 255 (take (length s - (at + 1)) (drop (at + 1) s)) n → Passes (drop at s) (1 + n)
  passes-run bytes h ascii k =
      let c : Clear 128 255 (drop (suc at) s) n = rw (rest-lent s (at + 1), add-one) at k in
      let m : 1 + n ≡ suc n = omega arith in
      rw (drop-cons s at 0 h, m) (passes-ascii (get_or s at 0) (drop (suc at) s) n (bytes_after s (suc at) bytes) ascii c)

-- ---- the loop over a string
module _ (s : List ℕ) where
  pub place-start : (n : ℕ) → ((i : ℕ) → get_or s i 0 < 256) → Clear 128 255 s n → (n ≤ length s) × (bad_place s ≡ n + bad_place (drop n s))
  place-start n bytes k = (k.within, place-clear s n (all-bytes s bytes) k)

  module _ (at : ℕ) where
    pub place-bad : bad_place (drop at s) ≡ 0 → at + bad_place (drop at s) ≡ at
    place-bad e = omega (arith, e)

    pub place-passed : (n : ℕ) → Passes (drop at s) n → at + bad_place (drop at s) ≡ at + n + bad_place (drop (at + n) s)
    place-passed n p = let e = p.rest ∙ ap (λ (l : List ℕ). n + bad_place l) (drop-drop n at s) in omega (arith, e)

    pub place_end : length s ≤ at → at + bad_place (drop at s) ≡ at
    place_end h = rw (drop_of_length-le s h) (omega (arith, place_none [] nothing-first))

  -- a string of ASCII alone
  pub place-whole : (n : ℕ) → ((i : ℕ) → get_or s i 0 < 256) → length s ≤ n → Clear 128 255 s n → n ≡ bad_place s
  place-whole n bytes h k = sym ((place-start n bytes k).1 ∙ place_end n h)

  any-fewer : (m : ℕ) (q : List ℕ) → any_in_range 128 255 q ≡ false → any_in_range 128 255 (take m q) ≡ false
  unfolding any_in_range
  any-fewer zero q e = refl
  any-fewer (suc m) [] e = refl
  any-fewer (suc m) (b ∷ q) e = let r = any-first 128 255 b q e in rw r.0 (any-fewer m q r.1)

  -- ASCII up to a place, and from one before it to the end
  pub clear_whole : (at last : ℕ) → last ≤ at → Clear 128 255 s at → any_in_range 128 255 (take (length s - last) (drop last s)) ≡ false → Clear 128 255 s (length s)
  clear_whole at last h k e =
      let first : Clear 128 255 s last = record { within = omega (arith, k.within); none = rw (take-take last at s h) at (any-fewer last (take at s) k.none) } in
      clear-block first (length s) first.within (omega arith) e
