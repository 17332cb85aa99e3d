-- Many bytes given at once: up to the first frame or refusal, or to their end.
use Rattle.std.specs.Prelude.{ℕ, ◌+◌, List, [], ◌∷◌, Bool, true, false, cond, not, length, Option, Some, None, Result, Ok, Err}
use Rattle.wire.specs.Told.{line, table}
use Rattle.classic_extractor.specs.declared.state.Progress.{Progress}
use Rattle.classic_extractor.specs.declared.outcome.Frame.{Frame}
use Rattle.classic_extractor.specs.declared.outcome.Refusal.{Refusal}
use Rattle.classic_extractor.specs.Outcome.{Report, skipped, taken, all_used, frame, refused, number_of}
use Rattle.classic_extractor.specs.State.{ready}
use Rattle.classic_extractor.specs.Step.{advance_of}

-- many bytes tell all used where nothing was decided
abbrev pub told_feed : Result (Option Frame) Refusal → Report
told_feed (Ok None) = all_used
told_feed (Ok (Some f)) = frame f.sequence f.len
told_feed (Err r) = refused (number_of r)

-- what many bytes leave: besides a step's, the number of bytes used
pub record Feed : Type 0 where
  pub report : Report
  pub used : ℕ
  pub next : Progress
  pub buffer : List ℕ

abbrev pub fed : Report → ℕ → Progress → List ℕ → Feed
fed r n s l = record { report = r; used = n; next = s; buffer = l }

-- a frame or a refusal decides
abbrev pub decides : Report → Bool
decides skipped = false
decides taken = false
decides all_used = false
decides (frame sequence n) = true
decides (refused n) = true

abbrev pub feed_report : Report → Report
feed_report skipped = all_used
feed_report taken = all_used
feed_report all_used = all_used
feed_report (frame sequence n) = frame sequence n
feed_report (refused n) = refused n

-- the bytes after the first n, up to the first that decides
unfoldable pub feed_from : ℕ → ℕ → Progress → List ℕ → List ℕ → Feed
feed_from limit n s l [] = fed all_used n s l
feed_from limit n s l (b ∷ bs) =
    let r = advance_of limit s l b in
    cond (decides r.report) (fed (feed_report r.report) (n + 1) r.next r.buffer) (feed_from limit (n + 1) r.next r.buffer bs)

-- the call for many bytes, on all inputs
abbrev pub feed_of : ℕ → Progress → List ℕ → List ℕ → Feed
feed_of limit s l bytes = table (line 1 (not (ready limit s (length l))) ∷ []) (λ n. fed (refused n) 0 s l) (feed_from limit 0 s l bytes)
