-- Laws of the loop over many bytes.
use Prim.Native.Nat.{ℕ, ◌+◌, ◌<◌, ◌≤◌, zero-le}
use mathlib.Core.Path.{◌≡◌, refl, ◌∙◌}
use mathlib.Core.List.{List, [], ◌∷◌}
use mathlib.Core.Bool.{Bool, true, false, cond, not}
use native.Mathlib.Numerals.{add-one}
use native.Mathlib.Omega.{arith}
use lib.ListN.{length, drop, get_or, drop_of_length-le}
use lib.Seq.{drop-cons}
use lib.Dec.{ltb}
use borrow.Author.Tests.{ltb-true}
use Rattle.classic_extractor.specs.declared.state.Progress.{Progress}
use Rattle.classic_extractor.specs.Action.{Action, Skip, Begin, Restart, Go, Number, Store, Finish, Refuse, action_of}
use Rattle.classic_extractor.specs.Outcome.{Report, refused, all_used}
use Rattle.classic_extractor.specs.State.{ready, Fits}
use Rattle.classic_extractor.specs.Step.{ByteStep, store_of, perform_of, advance_of}
use Rattle.classic_feed.specs.Feed.{fed, decides, feed_report, feed_from, feed_of}

store-held : (limit : ℕ) (s : Progress) (l : List ℕ) (x : ℕ) → (store_of limit s l x).next.held ≤ limit + 2
unfolding store_of
store-held limit s l x = go (ltb s.held (limit + 2)) refl
  where
    go : (t : Bool) → ltb s.held (limit + 2) ≡ t → (store_of limit s l x).next.held ≤ limit + 2
    go true e = rw e (omega (arith, ltb-true s.held (limit + 2) e))
    go false e = rw e zero-le

perform-held : (limit : ℕ) (s : Progress) (l : List ℕ) (b : ℕ) (a : Action) → s.held ≤ limit + 2
    → (perform_of limit s l b a).next.held ≤ limit + 2
perform-held limit s l b Skip h = h
perform-held limit s l b Begin h = zero-le
perform-held limit s l b Restart h = zero-le
perform-held limit s l b (Go p) h = h
perform-held limit s l b Number h = h
perform-held limit s l b (Store x) h = store-held limit s l x
perform-held limit s l b Finish h = zero-le
perform-held limit s l b (Refuse r) h = zero-le

-- a step keeps the count held within the buffer
advance-held : (limit : ℕ) (s : Progress) (l : List ℕ) (b : ℕ) → s.held ≤ limit + 2 → (advance_of limit s l b).next.held ≤ limit + 2
unfolding advance_of
advance-held limit s l b h = perform-held limit s l b (action_of s.phase b) h

-- at the loop's test what is left of the bytes gives what all of them give
pub record Running (limit : ℕ) (bytes l₀ : List ℕ) (s₀ : Progress) (l : List ℕ) (s : Progress) (i : ℕ) : Type 0 where
  pub within : i ≤ length bytes
  pub fits : Fits limit s l
  pub same : length l ≡ length l₀
  pub rest : feed_from limit i s l (drop i bytes) ≡ feed_from limit 0 s₀ l₀ bytes

module _ {limit : ℕ} {bytes l₀ : List ℕ} {s₀ : Progress} {l : List ℕ} {s : Progress} {i : ℕ} (inv : Running limit bytes l₀ s₀ l s i) where
  -- nothing is left of the bytes
  pub running-end : length bytes ≤ i → fed all_used i s l ≡ feed_from limit 0 s₀ l₀ bytes
  unfolding feed_from
  running-end h = rw (drop_of_length-le bytes h) at inv.rest

  -- one step, by what its contract says of it
  module _ {a : ByteStep} (step : a ≡ advance_of limit s l (get_or bytes i 0)) (inside : i < length bytes) where
    module _ {next : Progress} (moved : next ≡ a.next) where
      pub running-stop : decides a.report ≡ true → fed (feed_report a.report) (i + 1) next a.buffer ≡ feed_from limit 0 s₀ l₀ bytes
      unfolding feed_from
      running-stop e = rw moved (rw (drop-cons bytes i 0 inside, ← step, e) at inv.rest)

      pub running_more : decides a.report ≡ false → length a.buffer ≡ length l → Running limit bytes l₀ s₀ a.buffer next (i + 1)
      unfolding feed_from
      running_more e kept =
          record {
            within = omega arith;
            fits =
                record {
                  room = rw (moved, step) (advance-held limit s l (get_or bytes i 0) inv.fits.room);
                  size = kept ∙ inv.fits.size;
                };
            same = kept ∙ inv.same;
            rest = rw (moved, add-one) (rw (drop-cons bytes i 0 inside, ← step, e, add-one) at inv.rest);
          }

-- ---- the number of bytes used

used-most : (limit n : ℕ) (s : Progress) (l bytes : List ℕ) → (feed_from limit n s l bytes).used ≤ n + length bytes
unfolding feed_from
used-most limit n s l [] = omega arith
used-most limit n s l (b ∷ bs) =
    let r = advance_of limit s l b in
    go (decides r.report) r.report r.next r.buffer (used-most limit (n + 1) r.next r.buffer bs)
  where
    go : (t : Bool) (report : Report) (next : Progress) (buffer : List ℕ) → (feed_from limit (n + 1) next buffer bs).used ≤ n + 1 + length bs
        → (cond t (fed (feed_report report) (n + 1) next buffer) (feed_from limit (n + 1) next buffer bs)).used ≤ n + length (b ∷ bs)
    go true report next buffer h = omega arith
    go false report next buffer h = omega arith

-- no call uses more bytes than it is given
pub feed-within : (limit : ℕ) (s : Progress) (l bytes : List ℕ) → (feed_of limit s l bytes).used ≤ length bytes
feed-within limit s l bytes = go (ready limit s (length l))
  where
    go : (t : Bool) → (cond (not t) (fed (refused 1) 0 s l) (feed_from limit 0 s l bytes)).used ≤ length bytes
    go true = omega (arith, used-most limit 0 s l bytes)
    go false = zero-le
