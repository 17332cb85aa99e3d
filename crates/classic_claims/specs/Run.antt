-- Calls of the extractor one after another, and what they hand out.
use Rattle.std.specs.Prelude.{ℕ, ◌+◌, List, [], ◌∷◌, ◌++◌, cond, take, drop, ltb}
use Rattle.classic_extractor.specs.declared.state.Progress.{Progress}
use Rattle.classic_extractor.specs.Outcome.{Report, skipped, taken, all_used, frame, refused}
use Rattle.classic_extractor.specs.Step.{byte_step_of}
use Rattle.classic_feed.specs.Feed.{Feed, fed, feed_of}

-- a step with the next byte, or a call with the next n bytes, or with as many as are left
pub data Call : Type 0 where
  one : Call
  many : ℕ → Call

-- what a call leaves; a step wants a byte: where none is left nothing is called, and nothing is decided
unfoldable pub call_of : ℕ → Call → Progress → List ℕ → List ℕ → Feed
call_of limit one s l [] = fed all_used 0 s l
call_of limit one s l (b ∷ bs) = let r = byte_step_of limit s l b in fed r.report 1 r.next r.buffer
call_of limit (many n) s l bytes = feed_of limit s l (take n bytes)

-- as a call returns: its report, the number of bytes used so far (the last of them decided, if one did) and the lent buffer
pub record Event : Type 0 where
  pub report : Report
  pub used : ℕ
  pub buffer : List ℕ

-- the calls' events, and the bytes that they left
pub record Run : Type 0 where
  pub events : List Event
  pub unused : List ℕ

abbrev pub noted : Event → Run → Run
noted e later = record { events = e ∷ later.events; unused = later.unused }

-- each call begins at the first byte not yet used, with the state and the buffer that the one before left; n bytes are used so far
unfoldable pub run_of : ℕ → List Call → ℕ → Progress → List ℕ → List ℕ → Run
run_of limit [] n s l bytes = record { events = []; unused = bytes }
run_of limit (c ∷ cs) n s l bytes =
    let r = call_of limit c s l bytes in
    noted
    (record { report = r.report; used = n + r.used; buffer = r.buffer })
    (run_of limit cs (n + r.used) r.next r.buffer (drop r.used bytes))

-- what is handed out of a frame: its sequence, its payload's length, and the payload
pub record Given : Type 0 where
  pub sequence : ℕ
  pub size : ℕ
  pub payload : List ℕ

-- a report of a frame hands out the first bytes of the lent buffer, as many as it tells
abbrev pub handed_by : Report → List ℕ → List Given
handed_by skipped l = []
handed_by taken l = []
handed_by all_used l = []
handed_by (frame sequence n) l = record { sequence = sequence; size = n; payload = take n l } ∷ []
handed_by (refused n) l = []

-- what is handed out by the calls whose last byte used stands after the first n
unfoldable pub handed_out : ℕ → List Event → List Given
handed_out n [] = []
handed_out n (e ∷ es) = cond (ltb n e.used) (handed_by e.report e.buffer) [] ++ handed_out n es
