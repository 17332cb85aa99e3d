-- In a well-formed string a hidden character stands where a sequence begins: no row of theirs begins with a byte that follows in one.
use Prim.Native.Nat.{ℕ, suc, ◌+◌, ◌≤◌}
use mathlib.Core.Path.{◌≡◌, refl, sym, subst}
use mathlib.Core.Bool.{Bool, true, false, ◌&&◌, ◌||◌, false≢true}
use mathlib.Core.List.{List, [], ◌∷◌, ◌++◌}
use native.Mathlib.Omega.{arith}
use lib.ListN.{length, take}
use lib.Seq.{take-append-add}
use lib.Dec.{leb}
use borrow.Author.Tests.{leb-true, lt-leb}
use Rattle.wire.proofs.Tests.{and_left, and_right}
use Rattle.utf8.specs.declared.table.Range.{Range}
use Rattle.utf8.specs.Table.{rows, within, row_describes, any_describes, described}
use Rattle.utf8.specs.WellFormed.{WellFormed, empty, more}
use Rattle.utf8_shown.specs.Shown.{hidden_rows, is_hidden, hidden_place}
use Rattle.utf8_shown.specs.Claims.{HiddenBegins}

-- ---- the bytes that follow the first of a sequence
abbrev Follow : List ℕ → Type 0
Follow [] = Unit {0}
Follow (b ∷ q) = (0x80 ≤ b) × (b ≤ 0xBF) × Follow q

-- ranges of 80 to BF
following : List Range → Bool
following [] = true
following (r ∷ rs) = (leb 0x80 r.0 && leb r.1 0xBF) && following rs

behind-first : List (List Range) → Bool
behind-first [] = true
behind-first ([] ∷ rs) = behind-first rs
behind-first ((r ∷ row) ∷ rs) = following row && behind-first rs

rows-follow : behind-first rows ≡ true
unfolding rows behind-first following
rows-follow = refl

in-range : (r : Range) (b : ℕ) → (leb 0x80 r.0 && leb r.1 0xBF) ≡ true → within r b ≡ true → (0x80 ≤ b) × (b ≤ 0xBF)
unfolding within
in-range r b e w =
    let low = leb-true 0x80 r.0 (and_left (leb 0x80 r.0) _ e) in
    let high = leb-true r.1 0xBF (and_right (leb 0x80 r.0) _ e) in
    let over = leb-true r.0 b (and_left (leb r.0 b) _ w) in
    let under = leb-true b r.1 (and_right (leb r.0 b) _ w) in
    (omega arith, omega arith)

describes-follow : (rs : List Range) (q : List ℕ) → following rs ≡ true → row_describes rs q ≡ true → Follow q
unfolding following
describes-follow [] [] f d = tt
describes-follow [] (b ∷ q) f d = absurd (false≢true d)
describes-follow (r ∷ rs) [] f d = absurd (false≢true d)
describes-follow (r ∷ rs) (b ∷ q) f d =
    let inside = leb 0x80 r.0 && leb r.1 0xBF in
    let i = in-range r b (and_left inside (following rs) f) (and_left (within r b) (row_describes rs q) d) in
    (i.0, i.1, describes-follow rs q (and_right inside (following rs) f) (and_right (within r b) (row_describes rs q) d))

any-follow : (rs : List (List Range)) (b : ℕ) (q : List ℕ) → behind-first rs ≡ true → any_describes rs (b ∷ q) ≡ true → Follow q
unfolding behind-first
any-follow [] b q f d = absurd (false≢true d)
any-follow ([] ∷ rs) b q f d = any-follow rs b q f d
any-follow ((r ∷ row) ∷ rs) b q f d = by (row_describes (r ∷ row) (b ∷ q)) refl d (λ h. any-follow rs b q (and_right (following row) _ f) h)
  where
    by : (t : Bool) → row_describes (r ∷ row) (b ∷ q) ≡ t → (t || any_describes rs (b ∷ q)) ≡ true → (any_describes rs (b ∷ q) ≡ true → Follow q) → Follow q
    by true k h later = describes-follow row q (and_left (following row) _ f) (and_right (within r b) _ k)
    by false k h later = later h

described-follow : (b : ℕ) (q : List ℕ) → described (b ∷ q) ≡ true → Follow q
unfolding described
described-follow b q d = any-follow rows b q rows-follow d

nothing-described : described [] ≡ true → ⊥
unfolding described rows
nothing-described e = false≢true e

-- ---- they begin no hidden character
outside : (low high b : ℕ) → 0x80 ≤ b → high ≤ 0x7F → within (low, high) b ≡ false
unfolding within
outside low high b l h = and-false (leb low b) (leb b high) (lt-leb b high (omega arith))
  where
    and-false : (x y : Bool) → y ≡ false → (x && y) ≡ false
    and-false true y e = e
    and-false false y e = refl

above : (low high b : ℕ) → b ≤ 0xBF → 0xC0 ≤ low → within (low, high) b ≡ false
unfolding within
above low high b l h = rw (lt-leb low b (omega arith))

follow-shown : (b : ℕ) (s : List ℕ) → 0x80 ≤ b → b ≤ 0xBF → is_hidden (b ∷ s) ≡ false
unfolding is_hidden hidden_rows
follow-shown b s l h =
    rw (
      outside 0x00 0x1F b l (omega arith),
      outside 0x7F 0x7F b l (omega arith),
      above 0xC2 0xC2 b h (omega arith),
      above 0xD8 0xD8 b h (omega arith),
      above 0xE2 0xE2 b h (omega arith),
    )

pass-one : (b : ℕ) (s : List ℕ) → is_hidden (b ∷ s) ≡ false → hidden_place (b ∷ s) ≡ suc (hidden_place s)
unfolding hidden_place
pass-one b s e = rw e

pass-follow : (q s : List ℕ) → Follow q → hidden_place (q ++ s) ≡ length q + hidden_place s
pass-follow [] s f = omega arith
pass-follow (b ∷ q) s f = let e = pass-one b (q ++ s) (follow-shown b (q ++ s) f.0 f.1) in let r = pass-follow q s f.2 in omega (arith, e, r)

-- ---- a whole string
begins : {s : List ℕ} → WellFormed s → WellFormed (take (hidden_place s) s)
unfolding hidden_place
begins empty = empty
begins (more [] b e d w) = absurd (nothing-described d)
begins {s} (more (x ∷ q) b e d w) = subst (λ (l : List ℕ). WellFormed (take (hidden_place l) l)) (sym e) (by (is_hidden (x ∷ (q ++ b))) refl (begins w))
  where
    by : (t : Bool) → is_hidden (x ∷ (q ++ b)) ≡ t → WellFormed (take (hidden_place b) b) → WellFormed (take (hidden_place (x ∷ (q ++ b))) (x ∷ (q ++ b)))
    by true h rest = rw h empty
    by false h rest =
        let n : hidden_place (x ∷ (q ++ b)) ≡ length (x ∷ q) + hidden_place b = let p = pass-one x (q ++ b) h in let r = pass-follow q b (described-follow x q d) in omega (arith, p, r) in
        rw n (more (x ∷ q) (take (hidden_place b) b) (take-append-add (x ∷ q) b (hidden_place b)) d rest)

pub hidden-begins : HiddenBegins
unfolding HiddenBegins
hidden-begins s w = begins w
