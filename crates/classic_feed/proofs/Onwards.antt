-- Laws of the fast path: a run of bytes passed at once is the same as its steps.
use Prim.Native.Nat.{ℕ, suc, ◌+◌, ◌-◌, ◌<◌, ◌≤◌, zero-le}
use mathlib.Core.Path.{◌≡◌, refl, sym, ap, ◌∙◌}
use mathlib.Core.List.{List, [], ◌∷◌, ◌++◌}
use mathlib.Core.Bool.{Bool, true, false, cond, not, ◌&&◌, false≢true}
use native.Mathlib.Nat.{add-zero, add-suc, suc-add, add_assoc}
use native.Mathlib.Numerals.{add-one}
use native.Mathlib.Omega.{arith}
use lib.ListN.{length, take, drop, get_or, set, take-append-drop, length-set}
use lib.Seq.{drop-cons, drop-drop, sets}
use lib.Dec.{eqb, ltb, lit≤}
use borrow.Author.Tests.{eqb-true, ltb-false, lt-ltb, not-true}
use Rattle.std.proofs.Common.{Some, None}
use Rattle.std.proofs.lemmas.Option.{none-some}
use Rattle.wire.specs.Scan.{any_in_range, Clear, Copied}
use Rattle.wire.proofs.Runs.{out_of_range, any-first, copied-length, part-long, part_none, part_length, part-stored}
use Rattle.wire.proofs.Tests.{and_left, and_right}
use Rattle.classic_frame.specs.declared.mark.Kind.{Kind}
use Rattle.classic_frame.specs.declared.mark.Kind.TheVariants.{Start, End, Escape, Plain}
use Rattle.classic_frame.specs.Mark.{start_mark, end_mark, escape_mark, kind_of, is_mark}
use Rattle.classic_frame.specs.Frame.{packet_id, error_id, start_code, end_code, escape_code, mark_for}
use Rattle.classic_frame.proofs.Marks.{clear-plain, unmarked-plain, start-kind, escape-kind, packet-kind, error_kind}
use Rattle.classic_extractor.specs.declared.state.Progress.{Progress}
use Rattle.classic_extractor.specs.declared.state.Phase.{Phase}
use Rattle.classic_extractor.specs.declared.state.Phase.TheVariants.{Outside, Body, Escaped}
use Rattle.classic_extractor.specs.Action.{Store, code_of}
use Rattle.classic_extractor.specs.Outcome.{taken}
use Rattle.classic_extractor.specs.State.{begun, body, Fits}
use Rattle.classic_extractor.specs.Step.{step, store_of, advance_of}
use Rattle.classic_extractor.proofs.States.{by_mark, code-by-mark}
use Rattle.classic_feed.specs.Feed.{feed_from}
use Rattle.classic_feed.specs.FastPath.{mark_of, mark_at, is_header, header_at, Onward}
use Rattle.classic_feed.proofs.Loop.{Running}

-- ---- bytes that are passed

module _ {limit : ℕ} {bytes : List ℕ} where
  pub onward-here : {s : Progress} {l : List ℕ} {i : ℕ} → Fits limit s l → i ≤ length bytes → Onward limit bytes s l i s l i
  onward-here fits h = record { from = omega arith; within = h; fits = fits; rest = refl }

  pub onward_then : {s₀ : Progress} {l₀ : List ℕ} {i₀ : ℕ} {s₁ : Progress} {l₁ : List ℕ} {i₁ : ℕ} {s₂ : Progress} {l₂ : List ℕ} {i₂ : ℕ}
      → Onward limit bytes s₀ l₀ i₀ s₁ l₁ i₁ → Onward limit bytes s₁ l₁ i₁ s₂ l₂ i₂ → Onward limit bytes s₀ l₀ i₀ s₂ l₂ i₂
  onward_then x y = record { from = omega (arith, x.from, y.from); within = y.within; fits = y.fits; rest = y.rest ∙ x.rest }

  -- passing bytes keeps what holds at the test of the loop over many bytes
  pub running-on : {l₀ : List ℕ} {s₀ : Progress} {l : List ℕ} {s : Progress} {i : ℕ} {l' : List ℕ} {s' next : Progress} {j : ℕ}
      → Running limit bytes l₀ s₀ l s i → Onward limit bytes s l i s' l' j → length l' ≡ length l → next ≡ s' → Running limit bytes l₀ s₀ l' next j
  running-on inv on kept moved = rw moved (record { within = on.within; fits = on.fits; same = kept ∙ inv.same; rest = on.rest ∙ inv.rest })

-- ---- bytes outside of a frame

not_start : (x : ℕ) → eqb x start_mark ≡ false → kind_of x ≡ Start → ⊥
unfolding kind_of
not_start x q e = go (eqb x end_mark) (eqb x escape_mark) (rw q at e)
  where
    go : (t u : Bool) → cond t End (cond u Escape Plain) ≡ Start → ⊥
    go true u e = let z : ◌≡◌ {A = ℕ} 0 1 = cc in omega (arith, z)
    go false true e = let z : ◌≡◌ {A = ℕ} 0 1 = cc in omega (arith, z)
    go false false e = let z : ◌≡◌ {A = ℕ} 0 1 = cc in omega (arith, z)

outside-one : (limit n : ℕ) (s : Progress) (l : List ℕ) (x : ℕ) (xs : List ℕ) → s.phase ≡ Outside → eqb x start_mark ≡ false
    → feed_from limit n s l (x ∷ xs) ≡ feed_from limit (n + 1) s l xs
unfolding feed_from advance_of
outside-one limit n s l x xs p q = go (kind_of x) refl
  where
    go : (k : Kind) → kind_of x ≡ k → feed_from limit n s l (x ∷ xs) ≡ feed_from limit (n + 1) s l xs
    go Start e = absurd (not_start x q e)
    go End e = rw (p, e)
    go Escape e = rw (p, e)
    go Plain e = rw (p, e)

outside-run : (limit n : ℕ) (s : Progress) (l xs ys : List ℕ) → s.phase ≡ Outside → any_in_range start_mark start_mark xs ≡ false
    → feed_from limit n s l (xs ++ ys) ≡ feed_from limit (n + length xs) s l ys
outside-run limit n s l [] ys p e = rw add-zero
outside-run limit n s l (x ∷ xs) ys p e =
    let k = any-first start_mark start_mark x xs e in
    outside-one limit n s l x (xs ++ ys) p (out_of_range start_mark start_mark start_mark x k.0 (lit≤ tt) (lit≤ tt))
    ∙ outside-run limit (n + 1) s l xs ys p k.1 ∙ rw (add-one, suc-add, add-suc)

pub onward-outside : {limit : ℕ} {s : Progress} {l : List ℕ} (bytes : List ℕ) (i e k : ℕ) → Fits limit s l → s.phase ≡ Outside → i ≤ e → e ≤ length bytes
    → Clear start_mark start_mark (take (e - i) (drop i bytes)) k → Onward limit bytes s l i s l (i + k)
onward-outside {limit} {s} {l} bytes i e k fits p h w clear =
    record {
      from = omega arith;
      within = omega (arith, part-long start_mark start_mark bytes i e k h w clear);
      fits = fits;
      rest =
          sym
          (rw (take-append-drop k (drop i bytes), part_length start_mark start_mark bytes i e k h w clear, drop-drop k i bytes)
          at (outside-run limit i s l (take k (drop i bytes)) (drop k (drop i bytes)) p (part_none start_mark start_mark bytes i e k h w clear)));
    }

-- a start mark begins a frame
start-one : (limit n : ℕ) (s : Progress) (l ys : List ℕ) → s.phase ≡ Outside
    → feed_from limit n s l (start_mark ∷ ys) ≡ feed_from limit (n + 1) begun l ys
unfolding feed_from advance_of
start-one limit n s l ys p = rw (p, start-kind)

pub onward-start : {limit : ℕ} {s : Progress} {l : List ℕ} (bytes : List ℕ) (i : ℕ) → Fits limit s l → s.phase ≡ Outside → i < length bytes
    → get_or bytes i 0 ≡ start_mark → Onward limit bytes s l i begun l (i + 1)
onward-start {limit} {s} {l} bytes i fits p h e =
    let split : drop i bytes ≡ start_mark ∷ drop (i + 1) bytes = rw (drop-cons bytes i 0 h, e, add-one) in
    record {
      from = omega arith;
      within = omega arith;
      fits = record { room = zero-le; size = fits.size };
      rest = rw split (sym (start-one limit i s l (drop (i + 1) bytes) p));
    }

-- ---- plain bytes of a body

as-body : (s : Progress) → s.phase ≡ Body → s ≡ body s.sequence s.held
as-body s p = ap (λ (q : Phase). record { phase = q; sequence = s.sequence; held = s.held }) p

-- nothing is passed, and the state made by its fields
pub onward-body : {limit : ℕ} {s : Progress} {l : List ℕ} (bytes : List ℕ) {i : ℕ} → Fits limit s l → s.phase ≡ Body → i ≤ length bytes
    → Onward limit bytes s l i (body s.sequence s.held) l i
onward-body {limit} {s} {l} bytes {i} fits p h =
    record {
      from = omega arith;
      within = h;
      fits = record { room = fits.room; size = fits.size };
      rest = ap (λ (z : Progress). feed_from limit i z l (drop i bytes)) (sym (as-body s p));
    }

store-fits : (limit : ℕ) (s : Progress) (l : List ℕ) (x : ℕ) → s.held < limit + 2
    → store_of limit s l x ≡ step taken (body s.sequence (s.held + 1)) (set l s.held x)
unfolding store_of
store-fits limit s l x f = rw (lt-ltb s.held (limit + 2) f)

plain-one : (limit n q h : ℕ) (l : List ℕ) (x : ℕ) (xs : List ℕ) → kind_of x ≡ Plain → h < limit + 2
    → feed_from limit n (body q h) l (x ∷ xs) ≡ feed_from limit (n + 1) (body q (h + 1)) (set l h x) xs
unfolding feed_from advance_of
plain-one limit n q h l x xs e f = rw (e, store-fits limit (body q h) l x f)

plain-run : (limit n q h : ℕ) (l xs ys : List ℕ) → any_in_range start_mark escape_mark xs ≡ false → h + length xs ≤ limit + 2
    → feed_from limit n (body q h) l (xs ++ ys) ≡ feed_from limit (n + length xs) (body q (h + length xs)) (sets l h xs) ys
plain-run limit n q h l [] ys e f = simp add-zero
plain-run limit n q h l (x ∷ xs) ys e f =
    let k = any-first start_mark escape_mark x xs e in
    plain-one limit n q h l x (xs ++ ys) (clear-plain x k.0) (omega arith)
    ∙ plain-run limit (n + 1) q (h + 1) (set l h x) xs ys k.1 (omega arith) ∙ simp (add-one, suc-add, add-suc)

pub onward-plain : {limit : ℕ} {s : Progress} {l after : List ℕ} (bytes : List ℕ) (i e k : ℕ) → Fits limit s l → s.phase ≡ Body → i ≤ e → e ≤ length bytes
    → s.held + (e - i) ≤ limit + 2 → Copied start_mark escape_mark (take (e - i) (drop i bytes)) s.held l k after
    → Onward limit bytes s l i (body s.sequence (s.held + k)) after (i + k)
onward-plain {limit} {s} {l} bytes i e k fits p h w room copied =
    let clear = copied.clear in
    let long = part-long start_mark escape_mark bytes i e k h w clear in
    let size = part_length start_mark escape_mark bytes i e k h w clear in
    record {
      from = omega arith;
      within = omega (arith, long);
      fits = record { room = omega (arith, long); size = copied-length copied ∙ fits.size };
      rest =
          rw (as-body s p, part-stored start_mark escape_mark bytes i e k h w clear copied)
          (sym
          (rw (take-append-drop k (drop i bytes), size, drop-drop k i bytes)
          at (plain-run limit i s.sequence s.held l (take k (drop i bytes)) (drop k (drop i bytes)) (part_none start_mark escape_mark bytes i e k h w clear)
          (rw size (omega (arith, long))))));
    }

-- ---- an escape mark and its code

pair_step : (limit n q h : ℕ) (l : List ℕ) (c x : ℕ) (ys : List ℕ) → h < limit + 2 → kind_of c ≡ Plain → code_of c ≡ Store x
    → feed_from limit n (body q h) l (escape_mark ∷ c ∷ ys) ≡ feed_from limit (n + 2) (body q (h + 1)) (set l h x) ys
unfolding feed_from advance_of
pair_step limit n q h l c x ys f p e = rw (escape-kind, p, e, store-fits limit (record { phase = Escaped; sequence = q; held = h }) l x f, add_assoc)

-- a code is no mark
code-plain : (c x : ℕ) → mark_for c ≡ Some x → kind_of c ≡ Plain
unfolding mark_for kind_of
code-plain c x e = go (eqb c start_code) refl (eqb c end_code) refl (eqb c escape_code) refl e
  where
    go : (s : Bool) → eqb c start_code ≡ s → (t : Bool) → eqb c end_code ≡ t → (u : Bool) → eqb c escape_code ≡ u
        → cond s (Some start_mark) (cond t (Some end_mark) (cond u (Some escape_mark) None)) ≡ Some x → kind_of c ≡ Plain
    go true s t e u f g = rw (eqb-true c start_code s)
    go false s true e u f g = rw (eqb-true c end_code e)
    go false s false e true f g = rw (eqb-true c escape_code f)
    go false s false e false f g = absurd (none-some x g)

pair-two : (limit n q h : ℕ) (l : List ℕ) (b c x : ℕ) (ys : List ℕ) → h < limit + 2 → mark_of b c ≡ Some x
    → feed_from limit n (body q h) l (b ∷ c ∷ ys) ≡ feed_from limit (n + 2) (body q (h + 1)) (set l h x) ys
pair-two limit n q h l b c x ys f e = go (eqb b escape_mark) refl e
  where
    go : (t : Bool) → eqb b escape_mark ≡ t → cond t (mark_for c) None ≡ Some x
        → feed_from limit n (body q h) l (b ∷ c ∷ ys) ≡ feed_from limit (n + 2) (body q (h + 1)) (set l h x) ys
    go false t k = absurd (none-some x k)
    go true t k = rw (eqb-true b escape_mark t) (pair_step limit n q h l c x ys f (code-plain c x k) (sym (code-by-mark c) ∙ ap by_mark k))

drop-two : (l : List ℕ) (i : ℕ) → i + 2 ≤ length l → drop i l ≡ get_or l i 0 ∷ get_or l (i + 1) 0 ∷ drop (i + 2) l
drop-two l i h =
    let one : i + 1 ≡ suc i = omega arith in
    let two : i + 2 ≡ suc (suc i) = omega arith in
    rw (one, two, drop-cons l i 0 (omega arith), drop-cons l (suc i) 0 (omega arith))

pub onward-pair : {limit : ℕ} {s : Progress} {l : List ℕ} (bytes : List ℕ) (i x : ℕ) → Fits limit s l → s.phase ≡ Body → i ≤ length bytes
    → mark_at bytes i ≡ Some x → s.held < limit + 2
    → Onward limit bytes s l i (body s.sequence (s.held + 1)) (set l s.held x) (i + 2)
onward-pair {limit} {s} {l} bytes i x fits p w e f = go (ltb (length bytes - i) 2) refl
  where
    go : (t : Bool) → ltb (length bytes - i) 2 ≡ t → Onward limit bytes s l i (body s.sequence (s.held + 1)) (set l s.held x) (i + 2)
    go true t = absurd (none-some x (rw t at e))
    go false t =
        let two : i + 2 ≤ length bytes = omega (arith, ltb-false (length bytes - i) 2 t) in
        record {
          from = omega arith;
          within = two;
          fits = record { room = omega arith; size = length-set l s.held x ∙ fits.size };
          rest =
              rw (as-body s p, drop-two bytes i two)
              (sym (pair-two limit i s.sequence s.held l (get_or bytes i 0) (get_or bytes (i + 1) 0) x (drop (i + 2) bytes) f (rw t at e)));
        }

-- ---- a header

header-four : (limit n : ℕ) (s : Progress) (l : List ℕ) (a b c d : ℕ) (ys : List ℕ) → s.phase ≡ Outside → is_header a b c d ≡ true
    → feed_from limit n s l (a ∷ b ∷ c ∷ d ∷ ys) ≡ feed_from limit (n + 4) (body d 0) l ys
unfolding feed_from advance_of
header-four limit n s l a b c d ys p e =
    let tail = eqb c error_id && not (is_mark d) in
    let e₁ = and_right (eqb a start_mark) (eqb b packet_id && tail) e in
    let e₂ = and_right (eqb b packet_id) tail e₁ in
    let four : n + 1 + 1 + 1 + 1 ≡ n + 4 = omega arith in
    rw (
      eqb-true a start_mark (and_left (eqb a start_mark) (eqb b packet_id && tail) e),
      eqb-true b packet_id (and_left (eqb b packet_id) tail e₁),
      eqb-true c error_id (and_left (eqb c error_id) (not (is_mark d)) e₂),
      p,
      start-kind,
      packet-kind,
      error_kind,
      unmarked-plain (kind_of d) (not-true (is_mark d) (and_right (eqb c error_id) (not (is_mark d)) e₂)),
      four,
    )

drop-four : (l : List ℕ) (i : ℕ) → i + 4 ≤ length l → drop i l ≡ get_or l i 0 ∷ get_or l (i + 1) 0 ∷ get_or l (i + 2) 0 ∷ get_or l (i + 3) 0 ∷ drop (i + 4) l
drop-four l i h =
    let three : i + 2 + 1 ≡ i + 3 = omega arith in
    let four : i + 2 + 2 ≡ i + 4 = omega arith in
    drop-two l i (omega arith) ∙ ap (λ (t : List ℕ). get_or l i 0 ∷ get_or l (i + 1) 0 ∷ t) (rw (three, four) at (drop-two l (i + 2) (omega arith)))

header-whole : (bytes : List ℕ) (i : ℕ) → i ≤ length bytes → header_at bytes i ≡ true
    → (i + 4 ≤ length bytes) × (is_header (get_or bytes i 0) (get_or bytes (i + 1) 0) (get_or bytes (i + 2) 0) (get_or bytes (i + 3) 0) ≡ true)
unfolding header_at
header-whole bytes i w e = go (ltb (length bytes - i) 4) refl e
  where
    go : (t : Bool) → ltb (length bytes - i) 4 ≡ t → cond t false (is_header (get_or bytes i 0) (get_or bytes (i + 1) 0) (get_or bytes (i + 2) 0) (get_or bytes (i + 3) 0)) ≡ true
        → (i + 4 ≤ length bytes) × (is_header (get_or bytes i 0) (get_or bytes (i + 1) 0) (get_or bytes (i + 2) 0) (get_or bytes (i + 3) 0) ≡ true)
    go true t g = absurd (false≢true g)
    go false t g = (omega (arith, ltb-false (length bytes - i) 4 t), g)

pub onward-header : {limit : ℕ} {s : Progress} {l : List ℕ} (bytes : List ℕ) (i : ℕ) → Fits limit s l → s.phase ≡ Outside → i ≤ length bytes
    → header_at bytes i ≡ true → Onward limit bytes s l i (body (get_or bytes (i + 3) 0) 0) l (i + 4)
onward-header {limit} {s} {l} bytes i fits p w e =
    let k = header-whole bytes i w e in
    record {
      from = omega arith;
      within = k.0;
      fits = record { room = zero-le; size = fits.size };
      rest =
          rw (drop-four bytes i k.0)
          (sym (header-four limit i s l (get_or bytes i 0) (get_or bytes (i + 1) 0) (get_or bytes (i + 2) 0) (get_or bytes (i + 3) 0) (drop (i + 4) bytes) p k.1));
    }
