-- F1 after a payload and its checksum is stored, and after one byte of the two is another.
use Prim.Native.Nat.{ℕ, zero, suc, ◌+◌, ◌-◌, ◌/◌, ◌%◌, ◌≤◌, ◌<◌}
use mathlib.Core.Path.{◌≡◌, refl, sym, ap, ◌∙◌}
use mathlib.Core.Logic.{◌≢◌}
use mathlib.Core.Bool.{cond, not}
use mathlib.Core.List.{List, [], ◌∷◌, ◌++◌, append_assoc}
use native.Mathlib.Omega.{arith}
use lib.ListN.{length, take, drop, set, get_or, length-append, length-set}
use lib.Seq.{sets, sets-eq, take-append_seam, get_or-append_seam, get_or-append-add}
use lib.Dec.{eqb}
use borrow.Author.Tests.{eq-eqb, ne_eqb, le-ltb}
use Rattle.wire.specs.Bytes.{pair_of, AllBytes}
use Rattle.classic_frame.specs.Frame.{sum_of, checksum_of, content_of, checked}
use Rattle.classic_extractor.specs.Outcome.{frame, refused}
use Rattle.classic_extractor.specs.State.{body}
use Rattle.classic_extractor.specs.Step.{end_of}
use Rattle.classic_claims.specs.Run.{handed_by}

-- ---- what F1 reports

module _ (p : List ℕ) (high low : ℕ) (l : List ℕ) (room : length p + 2 ≤ length l) where
  abbrev content : List ℕ
  content = p ++ (high ∷ low ∷ [])

  size : length content ≡ length p + 2
  size = length-append p (high ∷ low ∷ [])

  stored : sets l 0 content ≡ p ++ (high ∷ low ∷ drop (0 + length content) l)
  stored = sets-eq content l 0 (omega (arith, size)) ∙ simp append_assoc

  first : take (length p) (sets l 0 content) ≡ p
  first = rw (stored, take-append_seam)

  end-report : (q : ℕ) → end_of (body q (length content)) (sets l 0 content)
      ≡ cond (not (eqb (checksum_of p) (pair_of high low))) (refused 25) (frame q (length p))
  unfolding end_of checked
  end-report q =
      let n : length content - 2 ≡ length p = omega (arith, size) in
      rw (le-ltb (length content) 2 (omega (arith, size)), n, stored, take-append_seam, get_or-append_seam, get_or-append-add)

module _ (p l : List ℕ) (room : length p + 2 ≤ length l) where
  -- the payload stands first in the buffer
  pub handed-first : (q : ℕ) → handed_by (frame q (length p)) (sets l 0 (content_of p)) ≡ record { sequence = q; size = length p; payload = p } ∷ []
  handed-first q =
      let c = checksum_of p in
      ap (λ (x : List ℕ). record { sequence = q; size = length p; payload = x } ∷ []) (first p (c / 256) (c % 256) l room)

  -- the checksum agrees with a frame's own payload
  pub whole-report : (q : ℕ) → end_of (body q (length (content_of p))) (sets l 0 (content_of p)) ≡ frame q (length p)
  whole-report q =
      let c = checksum_of p in
      end-report p (c / 256) (c % 256) l room q ∙ rw (eq-eqb c (pair_of (c / 256) (c % 256)) (omega arith))

-- ---- another byte

-- a payload and two bytes, with the byte at a place set to another, are a payload and two bytes; its sum from a base on differs from them
record Spoilt (base : ℕ) (p : List ℕ) (high low i x : ℕ) : Type 0 where
  pub payload : List ℕ
  pub high' : ℕ
  pub low' : ℕ
  pub same : set (p ++ (high ∷ low ∷ [])) i x ≡ payload ++ (high' ∷ low' ∷ [])
  pub size : length payload ≡ length p
  pub differs : (base + sum_of payload) % 65536 ≢ pair_of high' low'

spoilt-more : (base y : ℕ) (ys : List ℕ) (high low i x : ℕ) → Spoilt (base + y) ys high low i x → Spoilt base (y ∷ ys) high low (suc i) x
unfolding sum_of
spoilt-more base y ys high low i x r =
    record {
      payload = y ∷ r.payload;
      high' = r.high';
      low' = r.low';
      same = rw r.same;
      size = ap suc r.size;
      differs = omega (arith, r.differs);
    }

spoilt : (p : List ℕ) (base high low i x : ℕ) → AllBytes p → (base + sum_of p) % 65536 ≡ pair_of high low
    → i < length (p ++ (high ∷ low ∷ [])) → x < 256 → x ≢ get_or (p ++ (high ∷ low ∷ [])) i 0 → Spoilt base p high low i x
unfolding sum_of
spoilt [] base high low zero x b e h small other =
    record { payload = []; high' = x; low' = low; same = refl; size = refl; differs = omega arith }
spoilt [] base high low (suc zero) x b e h small other =
    record { payload = []; high' = high; low' = x; same = refl; size = refl; differs = omega arith }
spoilt [] base high low (suc (suc i)) x b e h small other = absurd (omega arith)
spoilt (y ∷ ys) base high low zero x b e h small other =
    record { payload = x ∷ ys; high' = high; low' = low; same = refl; size = refl; differs = omega arith }
spoilt (y ∷ ys) base high low (suc i) x b e h small other =
    spoilt-more base y ys high low i x (spoilt ys (base + y) high low i x b.1 (omega arith) (omega arith) small other)

module _ (p l : List ℕ) (room : length p + 2 ≤ length l) where
  pub spoilt-report : (q i x : ℕ) → AllBytes p → i < length (content_of p) → x < 256 → x ≢ get_or (content_of p) i 0
      → end_of (body q (length (content_of p))) (sets l 0 (set (content_of p) i x)) ≡ refused 25
  spoilt-report q i x b h small other =
      let c = checksum_of p in
      let r = spoilt p 2 (c / 256) (c % 256) i x b (omega arith) h small other in
      let n : length (content_of p) ≡ length (r.payload ++ (r.high' ∷ r.low' ∷ [])) = sym (length-set (content_of p) i x) ∙ ap length r.same in
      rw (r.same, n) (end-report r.payload r.high' r.low' l (omega arith) q ∙ rw (ne_eqb _ _ r.differs))
