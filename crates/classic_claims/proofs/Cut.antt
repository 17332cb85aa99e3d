-- Wherever the calls cut the bytes, they hand out what the bytes hand out one by one.
use Prim.Native.Nat.{ℕ, zero, suc, ◌+◌}
use mathlib.Core.Path.{◌≡◌, refl, sym, ap, ◌∙◌}
use mathlib.Core.Bool.{Bool, true, false, cond}
use mathlib.Core.List.{List, [], ◌∷◌, ◌++◌}
use native.Mathlib.Nat.{add-zero, add_assoc}
use native.Mathlib.Numerals.{one-add}
use lib.ListN.{length, take, drop}
use lib.Dec.{ltb}
use Rattle.classic_extractor.specs.declared.state.Progress.{Progress}
use Rattle.classic_extractor.specs.Outcome.{Report, skipped, taken, all_used, frame, refused}
use Rattle.classic_extractor.specs.State.{ready}
use Rattle.classic_extractor.specs.Step.{advance_of}
use Rattle.classic_feed.specs.Feed.{Feed, fed, decides, feed_report, feed_from}
use Rattle.classic_claims.specs.Run.{Call, one, many, call_of, run_of, Given, handed_by, handed_out}
use Rattle.classic_claims.proofs.Ready.{advance-ready, step-ready, feed-ready, feed-keeps}

-- what a report hands out at a place after the first `from` bytes
abbrev pub counted : ℕ → ℕ → Report → List ℕ → List Given
counted from n r l = cond (ltb from n) (handed_by r l) []

-- what the bytes after the first n hand out one by one
unfoldable pub since : ℕ → ℕ → ℕ → Progress → List ℕ → List ℕ → List Given
since limit from n s l [] = []
since limit from n s l (b ∷ bs) =
    let r = advance_of limit s l b in
    counted from (n + 1) r.report r.buffer ++ since limit from (n + 1) r.next r.buffer bs

nothing : (t : Bool) → ◌≡◌ {A = List Given} (cond t [] []) []
nothing true = refl
nothing false = refl

-- with n more bytes before
abbrev later : ℕ → Feed → Feed
later n f = fed f.report (n + f.used) f.next f.buffer

cond-later : (n : ℕ) (t : Bool) (f g : Feed) → cond t (later n f) (later n g) ≡ later n (cond t f g)
cond-later n true f g = refl
cond-later n false f g = refl

module _ (limit : ℕ) where
  -- the number used from n on is n more than the number used from 0 on
  pub feed-later : (bytes : List ℕ) (n : ℕ) (s : Progress) (l : List ℕ) → feed_from limit n s l bytes ≡ later n (feed_from limit 0 s l bytes)
  unfolding feed_from
  feed-later [] n s l = rw add-zero
  feed-later (b ∷ bs) n s l =
      let r = advance_of limit s l b in
      rw (feed-later bs (n + 1) r.next r.buffer, feed-later bs 1 r.next r.buffer, add_assoc) (cond-later n (decides r.report) _ _)

  -- a call leaves a lawful state and a buffer of the right size
  pub call-keeps : (c : Call) (s : Progress) (l bytes : List ℕ) → ready limit s (length l) ≡ true
      → (let f = call_of limit c s l bytes in ready limit f.next (length f.buffer) ≡ true)
  unfolding call_of
  call-keeps one s l [] h = h
  call-keeps one s l (b ∷ bs) h = rw (step-ready limit s l b h) (advance-ready limit s l b h)
  call-keeps (many k) s l bytes h = rw (feed-ready limit s l (take k bytes) h) (feed-keeps limit (take k bytes) 0 s l h)

  module _ (from : ℕ) where
    -- what a call hands out that finds n bytes used, and then the bytes that it left
    abbrev resumed : ℕ → Feed → List ℕ → List Given
    resumed n f bytes =
        counted from (n + f.used) f.report f.buffer ++ since limit from (n + f.used) f.next f.buffer (drop f.used bytes)

    undecided : (n : ℕ) (s : Progress) (l : List ℕ) (b : ℕ) (bs before : List ℕ)
        → since limit from (n + 1) s l bs ≡ resumed (n + 1) (feed_from limit 0 s l before) bs
        → cond (ltb from (n + 1)) [] [] ++ since limit from (n + 1) s l bs ≡ resumed n (feed_from limit 1 s l before) (b ∷ bs)
    undecided n s l b bs before e = rw (nothing (ltb from (n + 1)), feed-later before 1 s l) (e ∙ rw (add_assoc, one-add))

    feed-next : (n b k : ℕ) (bs : List ℕ) (r : Report) (s : Progress) (l : List ℕ)
        → since limit from (n + 1) s l bs ≡ resumed (n + 1) (feed_from limit 0 s l (take k bs)) bs
        → counted from (n + 1) r l ++ since limit from (n + 1) s l bs
        ≡ resumed n (cond (decides r) (fed (feed_report r) 1 s l) (feed_from limit 1 s l (take k bs))) (b ∷ bs)
    feed-next n b k bs skipped s l e = undecided n s l b bs (take k bs) e
    feed-next n b k bs taken s l e = undecided n s l b bs (take k bs) e
    feed-next n b k bs all_used s l e = undecided n s l b bs (take k bs) e
    feed-next n b k bs (frame q m) s l e = refl
    feed-next n b k bs (refused m) s l e = refl

    feed-none : (n : ℕ) (s : Progress) (l bytes : List ℕ) → since limit from n s l bytes ≡ resumed n (fed all_used 0 s l) bytes
    feed-none n s l bytes = rw (nothing (ltb from (n + 0)), add-zero)

    feed-cut : (k : ℕ) (bytes : List ℕ) (n : ℕ) (s : Progress) (l : List ℕ)
        → since limit from n s l bytes ≡ resumed n (feed_from limit 0 s l (take k bytes)) bytes
    unfolding feed_from since
    feed-cut zero bytes n s l = feed-none n s l bytes
    feed-cut (suc k) [] n s l = feed-none n s l []
    feed-cut (suc k) (b ∷ bs) n s l =
        let r = advance_of limit s l b in
        feed-next n b k bs r.report r.next r.buffer (feed-cut k bs (n + 1) r.next r.buffer)

    call-cut : (c : Call) (n : ℕ) (s : Progress) (l bytes : List ℕ) → ready limit s (length l) ≡ true
        → since limit from n s l bytes ≡ resumed n (call_of limit c s l bytes) bytes
    unfolding call_of since
    call-cut one n s l [] h = feed-none n s l []
    call-cut one n s l (b ∷ bs) h = rw (step-ready limit s l b h)
    call-cut (many k) n s l bytes h = rw (feed-ready limit s l (take k bytes) h) (feed-cut k bytes n s l)

    -- calls that use all bytes
    pub calls-cut : (cs : List Call) (n : ℕ) (s : Progress) (l bytes : List ℕ) → ready limit s (length l) ≡ true
        → (run_of limit cs n s l bytes).unused ≡ []
        → handed_out from (run_of limit cs n s l bytes).events ≡ since limit from n s l bytes
    unfolding run_of handed_out since
    calls-cut [] n s l bytes h e = rw e
    calls-cut (c ∷ cs) n s l bytes h e =
        let f = call_of limit c s l bytes in
        ap (λ (gs : List Given). counted from (n + f.used) f.report f.buffer ++ gs)
        (calls-cut cs (n + f.used) f.next f.buffer (drop f.used bytes) (call-keeps c s l bytes h) e)
        ∙ sym (call-cut c n s l bytes h)
