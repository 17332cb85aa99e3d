-- A call for the rest of a block uses no more than that.
use Rattle.std.proofs.Common.{◌≡◌, ℕ, ◌-◌, ◌≤◌, List, length, take, drop, ap, arith, length-take}
use Rattle.classic_extractor.specs.declared.state.Progress.{Progress}
use Rattle.classic_extractor.specs.Outcome.{Report}
use Rattle.classic_feed.specs.Feed.{Feed, fed, feed_of}
use Rattle.classic_feed.proofs.Loop.{feed-within}

pub used-fits : {r : Report} {n : ℕ} {s' : Progress} {l' : List ℕ} (limit : ℕ) (s : Progress) (l bytes : List ℕ) (at : ℕ) → at ≤ length bytes
    → fed r n s' l' ≡ feed_of limit s l (take (length bytes - at) (drop at bytes)) → n ≤ length bytes - at
used-fits {r} {n} limit s l bytes at h e =
    let u : n ≡ (feed_of limit s l (take (length bytes - at) (drop at bytes))).used = ap (λ (f : Feed). f.used) e in
    let w = feed-within limit s l (take (length bytes - at) (drop at bytes)) in
    let k = length-take (length bytes - at) (drop at bytes) in
    omega (arith, u, w, k)
