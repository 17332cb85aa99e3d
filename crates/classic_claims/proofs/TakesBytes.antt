-- Bytes that the extractor takes: a frame's header, and the bytes that it stores.
use Prim.Native.Nat.{ℕ, suc, ◌+◌, ◌≤◌, ◌<◌}
use mathlib.Core.Path.{◌≡◌, refl, ◌∙◌}
use mathlib.Core.List.{List, [], ◌∷◌, ◌++◌}
use native.Mathlib.Omega.{arith}
use native.Mathlib.Nat.{add-zero, add-suc, suc-add}
use native.Mathlib.Numerals.{add-one}
use lib.ListN.{length, set}
use lib.Seq.{sets}
use borrow.Author.Tests.{lt-ltb}
use Rattle.classic_frame.specs.declared.mark.Kind.TheVariants.{Plain}
use Rattle.classic_frame.specs.Mark.{kind_of}
use Rattle.classic_frame.specs.Frame.{packet_id, error_id, escaped_of, header_of}
use Rattle.classic_extractor.specs.declared.state.Progress.{Progress}
use Rattle.classic_extractor.specs.declared.state.Phase.{Phase}
use Rattle.classic_extractor.specs.declared.state.Phase.TheVariants.{Sequence, Escaped}
use Rattle.classic_extractor.specs.Outcome.{taken}
use Rattle.classic_extractor.specs.State.{begun, body}
use Rattle.classic_extractor.specs.Step.{step, store_of, advance_of}
use Rattle.classic_feed.specs.Feed.{feed_from}
use Rattle.classic_claims.proofs.Frames.{frames_of, frame-begins}
use Rattle.classic_claims.proofs.Spelling.{Code, Spelt, itself, coded, spelt}

-- before the sequence byte is read
abbrev pub fresh : Phase → Progress
fresh p = record { phase = p; sequence = 0; held = 0 }

-- after F2 in the body
abbrev pub escaping : ℕ → ℕ → Progress
escaping q h = record { phase = Escaped; sequence = q; held = h }

module _ (limit : ℕ) where
  -- bytes that are all taken lead from a state and a buffer to others
  pub data TakesBytes : Progress → List ℕ → List ℕ → Progress → List ℕ → Type 0 where
    none : {s : Progress} {l : List ℕ} → TakesBytes s l [] s l
    more : {s s₁ s₂ : Progress} {l l₁ l₂ : List ℕ} {b : ℕ} {bs : List ℕ}
        → advance_of limit s l b ≡ step taken s₁ l₁ → TakesBytes s₁ l₁ bs s₂ l₂ → TakesBytes s l (b ∷ bs) s₂ l₂

  single : {s s₁ : Progress} {l l₁ : List ℕ} {b : ℕ} → advance_of limit s l b ≡ step taken s₁ l₁ → TakesBytes s l (b ∷ []) s₁ l₁
  single e = more e none

  pub takes-then : {s s₁ s₂ : Progress} {l l₁ l₂ xs ys : List ℕ} → TakesBytes s l xs s₁ l₁ → TakesBytes s₁ l₁ ys s₂ l₂ → TakesBytes s l (xs ++ ys) s₂ l₂
  takes-then none k = k
  takes-then (more e j) k = more e (takes-then j k)

  -- they hand out nothing
  pub takes-frames : {s s₁ : Progress} {l l₁ xs : List ℕ} → TakesBytes s l xs s₁ l₁ → (ys : List ℕ)
      → frames_of limit s l (xs ++ ys) ≡ frames_of limit s₁ l₁ ys
  unfolding frames_of
  takes-frames none ys = refl
  takes-frames (more e k) ys = rw e (takes-frames k ys)

  -- a call for many bytes goes on behind them
  pub takes-feed : {s s₁ : Progress} {l l₁ xs : List ℕ} → TakesBytes s l xs s₁ l₁ → (n : ℕ) (ys : List ℕ)
      → feed_from limit n s l (xs ++ ys) ≡ feed_from limit (n + length xs) s₁ l₁ ys
  unfolding feed_from
  takes-feed none n ys = rw add-zero
  takes-feed (more e k) n ys = rw e (takes-feed k (n + 1) ys ∙ rw (add-one, suc-add, add-suc))

  -- ---- the header

  sequence-taken : (l : List ℕ) (q : ℕ) → kind_of q ≡ Plain → TakesBytes (fresh Sequence) l (q ∷ []) (body q 0) l
  unfolding advance_of
  sequence-taken l q e = single (rw e)

  -- 02, 00 and the sequence byte
  pub header-taken : (l : List ℕ) (q : ℕ) → kind_of q ≡ Plain → TakesBytes begun l (packet_id ∷ error_id ∷ q ∷ []) (body q 0) l
  unfolding advance_of kind_of
  header-taken l q e = more refl (more refl (sequence-taken l q e))

  -- a header in any state
  pub header : (q : ℕ) (l : List ℕ) → kind_of q ≡ Plain → (s : Progress) (rest : List ℕ)
      → frames_of limit s l (header_of q ++ rest) ≡ frames_of limit (body q 0) l rest
  header q l plain s rest = frame-begins limit s l (packet_id ∷ error_id ∷ q ∷ rest) ∙ takes-frames (header-taken l q plain) rest

  -- ---- the bytes to store

  module _ (q h : ℕ) (l : List ℕ) (room : h < limit + 2) where
    pub store-plain : (b : ℕ) → kind_of b ≡ Plain → TakesBytes (body q h) l (b ∷ []) (body q (suc h)) (set l h b)
    unfolding advance_of store_of
    store-plain b e = single (rw (e, lt-ltb h (limit + 2) room, add-one))

    pub store_code : (c x : ℕ) → kind_of c ≡ Plain → Code c x → TakesBytes (escaping q h) l (c ∷ []) (body q (suc h)) (set l h x)
    unfolding advance_of store_of
    store_code c x e k = single (rw (e, k.stands, lt-ltb h (limit + 2) room, add-one))

    store-unit : {x : ℕ} {us : List ℕ} → Spelt x us → TakesBytes (body q h) l us (body q (suc h)) (set l h x)
    unfolding advance_of kind_of
    store-unit {x} (itself e) = store-plain x e
    store-unit {x} (coded c e k) = more refl (store_code c x e k)

  pub store-all : (xs : List ℕ) (q h : ℕ) (l : List ℕ) → h + length xs ≤ limit + 2
      → TakesBytes (body q h) l (escaped_of xs) (body q (h + length xs)) (sets l h xs)
  unfolding escaped_of
  store-all [] q h l r = rw add-zero none
  store-all (x ∷ xs) q h l r =
      rw (add-suc, ← suc-add) (takes-then (store-unit q h l (omega arith) (spelt x)) (store-all xs q (suc h) (set l h x) (omega arith)))
