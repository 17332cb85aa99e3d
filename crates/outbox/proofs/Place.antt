-- Laws of reading at a place.
use Prim.Native.Nat.{ℕ, zero, suc, ◌≤◌, ◌<◌}
use mathlib.Core.Path.{◌≡◌, refl}
use mathlib.Core.Bool.{Bool, true, false, not, cond}
use mathlib.Core.List.{List, [], ◌∷◌, ◌++◌}
use mathlib.Mathlib.Data.Bool.Basic.{or-eq-false-eq-eq-false-and-eq-false}
use native.Mathlib.Omega.{arith}
use lib.Dec.{eqb, ltb}
use lib.ListN.{length, get_or, take, drop, length-drop}
use borrow.Author.Tests.{ltb-false, eqb-true, eqb-false, ne_eqb, eq-eqb, le-ltb}
use Rattle.wire.specs.Told.{line, table}
use Rattle.outbox.specs.Format.{Format}
use Rattle.outbox.specs.Reader.{Answer, Item, FoundRecord, given, refused, refused_at, found, end, other_version, bad_place, record_at, read_of}
use Rattle.outbox.proofs.Record.{clash, found-ends, never-end}

-- a place that is judged right lies within the bytes
pub place-within : (file : List ℕ) (place : ℕ) → bad_place file place ≡ false → (1 ≤ place) × (place ≤ length file)
unfolding bad_place
place-within file place e =
    let both = (or-eq-false-eq-eq-false-and-eq-false (eqb place 0) (ltb (length file) place)).0 e in
    (omega (arith, eqb-false place 0 both.0), ltb-false (length file) place both.1)

pub right-place : (file : List ℕ) (place : ℕ) → 1 ≤ place → place ≤ length file → bad_place file place ≡ false
unfolding bad_place
right-place file place l h = rw (ne_eqb place 0 (omega arith), le-ltb (length file) place h)

first_byte : (fmt : Format) (b : ℕ) (l m : List ℕ) → other_version fmt (b ∷ l) ≡ false → other_version fmt (b ∷ m) ≡ false
unfolding other_version
first_byte fmt b l m e =
    let both = (or-eq-false-eq-eq-false-and-eq-false (eqb (length (b ∷ l)) 0) (not (eqb b fmt.version))).0 e in
    rw (ne_eqb (length (b ∷ m)) 0 (omega arith)) both.1

-- bytes with the right version are not empty
pub opened : (fmt : Format) (file : List ℕ) → other_version fmt file ≡ false → 1 ≤ length file
unfolding other_version
opened fmt file e =
    let both = (or-eq-false-eq-eq-false-and-eq-false (eqb (length file) 0) (not (eqb (get_or file 0 0) fmt.version))).0 e in
    omega (arith, eqb-false (length file) 0 both.0)

-- the first byte is the version, whatever follows it
pub version-kept : (fmt : Format) (file : List ℕ) (kept : ℕ) → 1 ≤ kept → other_version fmt file ≡ false → other_version fmt (take kept file) ≡ false
version-kept fmt file zero h e = absurd (omega arith)
version-kept fmt [] (suc k) h e = e
version-kept fmt (b ∷ file) (suc k) h e = first_byte fmt b file (take k file) e

pub version-more : (fmt : Format) (file more : List ℕ) → other_version fmt file ≡ false → other_version fmt (file ++ more) ≡ false
version-more fmt [] more e = absurd (omega (arith, opened fmt [] e))
version-more fmt (b ∷ file) more e = first_byte fmt b file (file ++ more) e

-- before the end, reading is judging what stands there
pub read-inside : (fmt : Format) (file : List ℕ) (place : ℕ)
    → other_version fmt file ≡ false → bad_place file place ≡ false → (place ≡ length file → ⊥)
    → read_of fmt file place ≡ record_at fmt place (drop place file)
unfolding read_of
read-inside fmt file place v p e = rw (v, p, ne_eqb place (length file) e)

-- at the end it is the end
pub read-end : (fmt : Format) (file : List ℕ) (place : ℕ) → other_version fmt file ≡ false → 1 ≤ place → place ≡ length file → read_of fmt file place ≡ given end
unfolding read_of
read-end fmt file place v l e = rw (v, right-place file place l (omega arith), eq-eqb place (length file) e)

-- a record ends after its place and within the bytes
pub found_within : (fmt : Format) (file : List ℕ) (place : ℕ) (f : FoundRecord) → place ≤ length file
    → record_at fmt place (drop place file) ≡ given (found f) → (place < f.next) × (f.next ≤ length file)
found_within fmt file place f h e =
    let ends = found-ends fmt place (drop place file) f e in
    (ends.0, omega (arith, simp length-drop at ends.1))

-- what holds of each answer that reading can give
module _ (fmt : Format) (file : List ℕ) (place : ℕ) where
  read-cases : (P : Answer Item → Type 0) → P (refused_at 40 0) → P (refused 15)
      → (place ≡ length file → P (given end)) → (place ≤ length file → P (record_at fmt place (drop place file)))
      → P (read_of fmt file place)
  unfolding read_of
  read-cases P other bad at-end inside = by_tests (other_version fmt file) (bad_place file place) (eqb place (length file)) refl refl
    where
      by_tests : (v p l : Bool) → bad_place file place ≡ p → eqb place (length file) ≡ l
          → P (table (line 40 v ∷ []) (λ n. refused_at n 0) (table (line 15 p ∷ []) refused (cond l (given end) (record_at fmt place (drop place file)))))
      by_tests true p l e t = other
      by_tests false true l e t = bad
      by_tests false false true e t = at-end (eqb-true place (length file) t)
      by_tests false false false e t = inside (place-within file place e).1

  -- a record that is read ends after its place and within the bytes
  pub read-within : (f : FoundRecord) → read_of fmt file place ≡ given (found f) → (place < f.next) × (f.next ≤ length file)
  read-within f =
      read-cases
      (λ a. a ≡ given (found f) → (place < f.next) × (f.next ≤ length file))
      (λ e. absurd (clash (cc)))
      (λ e. absurd (clash (cc)))
      (λ h e. absurd (clash (cc)))
      (λ h e. found_within fmt file place f h e)

  -- .. and stands there
  pub read-record : (f : FoundRecord) → read_of fmt file place ≡ given (found f) → record_at fmt place (drop place file) ≡ given (found f)
  read-record f =
      read-cases
      (λ a. a ≡ given (found f) → record_at fmt place (drop place file) ≡ given (found f))
      (λ e. absurd (clash (cc)))
      (λ e. absurd (clash (cc)))
      (λ h e. absurd (clash (cc)))
      (λ h e. e)

  -- the end is read at the end only
  pub read-at-end : read_of fmt file place ≡ given end → place ≡ length file
  read-at-end =
      read-cases
      (λ a. a ≡ given end → place ≡ length file)
      (λ e. absurd (clash (cc)))
      (λ e. absurd (clash (cc)))
      (λ h e. h)
      (λ h e. absurd (never-end fmt place (drop place file) e))
