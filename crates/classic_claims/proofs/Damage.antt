-- A frame in which one byte turned into another: what becomes of it.
use Prim.Native.Nat.{ℕ, zero, suc, ◌+◌, ◌≤◌, ◌<◌}
use mathlib.Core.Path.{◌≡◌, refl, ◌∙◌}
use mathlib.Core.Logic.{◌≢◌}
use mathlib.Core.Bool.{true, false, true≢false}
use mathlib.Core.List.{List, [], ◌∷◌, ◌++◌, append_assoc}
use native.Mathlib.Omega.{arith}
use native.Mathlib.Nat.{add-suc, suc-add}
use lib.ListN.{length, set, get_or, length-set}
use lib.Seq.{sets}
use borrow.Author.Tests.{ne_eqb}
use Rattle.classic_frame.specs.declared.mark.Kind.TheVariants.{Plain}
use Rattle.classic_frame.specs.Mark.{end_mark, kind_of}
use Rattle.classic_frame.specs.Frame.{escaped_of}
use Rattle.classic_extractor.specs.declared.state.Progress.{Progress}
use Rattle.classic_extractor.specs.declared.state.Phase.{Phase}
use Rattle.classic_extractor.specs.declared.outcome.Refusal.TheVariants.{BadEscape}
use Rattle.classic_extractor.specs.Action.{Refuse, header_by, code_of}
use Rattle.classic_extractor.specs.State.{outside, body}
use Rattle.classic_extractor.specs.Step.{perform_of, advance_of}
use Rattle.classic_claims.specs.Run.{Given, handed_by}
use Rattle.classic_claims.specs.Recovery.{Turned}
use Rattle.classic_claims.proofs.Frames.{frames_of}
use Rattle.classic_frame.proofs.Marks.{unmarked-plain}
use Rattle.classic_claims.proofs.Spelling.{Code, Spelt, itself, coded, spelt, Meaning, stands-for, unknown, meaning}
use Rattle.classic_claims.proofs.TakesBytes.{escaping, takes-frames, store-plain, store_code, store-all}

-- what stands in a frame behind its header
abbrev pub spelled : List ℕ → List ℕ
spelled xs = escaped_of xs ++ (end_mark ∷ [])

-- ---- a byte that turned

pub turned_plain : {bs : List ℕ} {j v : ℕ} → Turned bs j v → kind_of v ≡ Plain
turned_plain {bs} {j} {v} t = unmarked-plain (kind_of v) t.is_plain

pub turned-tail : {x : ℕ} {bs : List ℕ} {j v : ℕ} → Turned (x ∷ bs) (suc j) v → Turned bs j v
turned-tail t = record { inside = omega arith; was_plain = t.was_plain; is_plain = t.is_plain; byte = t.byte; other = t.other }

module _ (limit : ℕ) where
  -- ---- outside

  pub outside-plain : (l : List ℕ) (b : ℕ) (rest : List ℕ) → kind_of b ≡ Plain → frames_of limit outside l (b ∷ rest) ≡ frames_of limit outside l rest
  unfolding frames_of advance_of
  outside-plain l b rest e = rw e

  outside-unit : {x : ℕ} {us : List ℕ} (l rest : List ℕ) → Spelt x us → frames_of limit outside l (us ++ rest) ≡ frames_of limit outside l rest
  unfolding frames_of advance_of kind_of
  outside-unit {x} l rest (itself e) = outside-plain l x rest e
  outside-unit l rest (coded c e k) = outside-plain l c rest e

  outside-escaped : (xs l rest : List ℕ) → frames_of limit outside l (escaped_of xs ++ rest) ≡ frames_of limit outside l rest
  unfolding escaped_of
  outside-escaped [] l rest = refl
  outside-escaped (x ∷ xs) l rest = rw append_assoc (outside-unit l (escaped_of xs ++ rest) (spelt x) ∙ outside-escaped xs l rest)

  -- the bytes behind a header are skipped
  pub rest-skipped : (xs l rest : List ℕ) → frames_of limit outside l (spelled xs ++ rest) ≡ frames_of limit outside l rest
  unfolding frames_of advance_of kind_of
  rest-skipped xs l rest = rw append_assoc (outside-escaped xs l (end_mark ∷ rest))

  -- ---- inside

  -- a header byte that is not the one wanted
  pub header-lost : (s : Progress) (l : List ℕ) (v wanted : ℕ) (next : Phase) (bytes : List ℕ) → kind_of v ≡ Plain → v ≢ wanted
      → (let r = perform_of limit s l v (header_by (kind_of v) wanted next v) in handed_by r.report r.buffer ++ frames_of limit r.next r.buffer bytes)
      ≡ frames_of limit outside l bytes
  header-lost s l v wanted next bytes e o = rw (e, ne_eqb v wanted o)

  module _ (q : ℕ) (rest : List ℕ) where
    -- what became of the bytes to store, xs, from the count h on: the frame is lost, or F1 finds one of them changed
    pub data Hit (h : ℕ) (xs l : List ℕ) (gs : List Given) : Type 0 where
      lost : (after : List ℕ) → length after ≡ length l → gs ≡ frames_of limit outside after rest → Hit h xs l gs
      changed : (i x : ℕ) → i < length xs → x < 256 → x ≢ get_or xs i 0
          → gs ≡ frames_of limit (body q (h + length xs)) (sets l h (set xs i x)) (end_mark ∷ rest) → Hit h xs l gs

    hit-more : {gs gs' : List Given} (h x : ℕ) (xs l : List ℕ) → gs ≡ gs' → Hit (suc h) xs (set l h x) gs' → Hit h (x ∷ xs) l gs
    hit-more h x xs l p (lost after n e) = lost after (n ∙ length-set l h x) (p ∙ e)
    hit-more h x xs l p (changed i y j s o e) = changed (suc i) y (omega arith) s o (rw (add-suc, ← suc-add) (p ∙ e))

    -- the first of the bytes is stored as y
    hit-first : {gs : List Given} (h x y : ℕ) (xs l : List ℕ) → h + length (x ∷ xs) ≤ limit + 2 → y < 256 → y ≢ x
        → gs ≡ frames_of limit (body q (suc h)) (set l h y) (spelled xs ++ rest) → Hit h (x ∷ xs) l gs
    hit-first h x y xs l r s o e =
        changed 0 y (omega arith) s o
        (rw (add-suc, ← suc-add) (e ∙ rw append_assoc (takes-frames limit (store-all limit xs q (suc h) (set l h y) (omega arith)) (end_mark ∷ rest))))

    -- the byte after F2 turned into v: it stands for another byte, or for none
    code-lost : (h v : ℕ) (bytes l : List ℕ) → kind_of v ≡ Plain → code_of v ≡ Refuse BadEscape
        → frames_of limit (escaping q h) l (v ∷ bytes) ≡ frames_of limit outside l bytes
    unfolding frames_of advance_of
    code-lost h v bytes l e k = rw (e, k)

    code-hit : (h x c v : ℕ) (xs l : List ℕ) → h + length (x ∷ xs) ≤ limit + 2 → Code c x → kind_of v ≡ Plain → v ≢ c → Meaning v
        → Hit h (x ∷ xs) l (frames_of limit (escaping q h) l (v ∷ (spelled xs ++ rest)))
    code-hit h x c v xs l r k e other (unknown w) = lost l refl (code-lost h v (spelled xs ++ rest) l e w ∙ rest-skipped xs l rest)
    code-hit h x c v xs l r k e other (stands-for y w) =
        hit-first h x y xs l r w.small (λ p. other (apart p)) (takes-frames limit (store_code limit q h l (omega arith) v y e w) (spelled xs ++ rest))
      where
        apart : y ≡ x → v ≡ c
        apart p = cc

    unit-hit : {x : ℕ} {us : List ℕ} (xs l : List ℕ) (h j v : ℕ) → Spelt x us → h + length (x ∷ xs) ≤ limit + 2 → Turned (us ++ spelled xs) j v
        → ((i : ℕ) → Turned (spelled xs) i v → Hit (suc h) xs (set l h x) (frames_of limit (body q (suc h)) (set l h x) (set (spelled xs) i v ++ rest)))
        → Hit h (x ∷ xs) l (frames_of limit (body q h) l (set (us ++ spelled xs) j v ++ rest))
    unfolding advance_of kind_of frames_of
    unit-hit {x} xs l h zero v (itself e) r t next =
        hit-first h x v xs l r (omega arith) t.other
        (takes-frames limit (store-plain limit q h l (omega arith) v (turned_plain t)) (spelled xs ++ rest))
    unit-hit {x} xs l h (suc j) v (itself e) r t next =
        hit-more h x xs l (takes-frames limit (store-plain limit q h l (omega arith) x e) (set (spelled xs) j v ++ rest)) (next j (turned-tail t))
    unit-hit xs l h zero v (coded c e k) r t next = absurd (true≢false t.was_plain)
    unit-hit {x} xs l h (suc zero) v (coded c e k) r t next = code-hit h x c v xs l r k (turned_plain t) t.other (meaning v)
    unit-hit {x} xs l h (suc (suc j)) v (coded c e k) r t next =
        hit-more h x xs l
        (takes-frames limit (store_code limit q h l (omega arith) c x e k) (set (spelled xs) j v ++ rest))
        (next j (turned-tail (turned-tail t)))

    pub body-hit : (xs l : List ℕ) (h j v : ℕ) → h + length xs ≤ limit + 2 → Turned (spelled xs) j v
        → Hit h xs l (frames_of limit (body q h) l (set (spelled xs) j v ++ rest))
    unfolding kind_of escaped_of
    body-hit [] l h zero v r t = absurd (true≢false t.was_plain)
    body-hit [] l h (suc j) v r t = absurd (omega (arith, t.inside))
    body-hit (x ∷ xs) l h j v r t =
        rw append_assoc (unit-hit xs l h j v (spelt x) r (rw append_assoc at t) (λ i u. body-hit xs (set l h x) (suc h) i v (omega arith) u))
