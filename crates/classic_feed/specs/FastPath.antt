-- The fast path over many bytes: bytes that are passed at once.
use Rattle.std.specs.Prelude.{ℕ, ◌+◌, ◌-◌, ◌≤◌, ◌≡◌, List, Bool, not, cond, false, ◌&&◌, length, drop, get_or, ltb, eqb, Option, None}
use Rattle.classic_frame.specs.Mark.{start_mark, escape_mark, is_mark}
use Rattle.classic_frame.specs.Frame.{packet_id, error_id, mark_for}
use Rattle.classic_extractor.specs.declared.state.Phase.{Phase}
use Rattle.classic_extractor.specs.declared.state.Phase.TheVariants.{Outside, PacketId, ErrorId, Sequence, Body, Escaped}
use Rattle.classic_extractor.specs.declared.state.Progress.{Progress}
use Rattle.classic_extractor.specs.Outcome.{Report, taken, refused}
use Rattle.classic_extractor.specs.State.{Fits}
use Rattle.classic_feed.specs.Feed.{feed_from}

-- the mark that an escape mark and a code stand for
abbrev pub mark_of : ℕ → ℕ → Option ℕ
mark_of b code = cond (eqb b escape_mark) (mark_for code) None

-- the same of the two bytes at a place
abbrev pub mark_at : List ℕ → ℕ → Option ℕ
mark_at l i = cond (ltb (length l - i) 2) None (mark_of (get_or l i 0) (get_or l (i + 1) 0))

-- what F0 reports, whatever stands before it
abbrev pub start_report : Phase → Report
start_report Outside = taken
start_report PacketId = refused 20
start_report ErrorId = refused 20
start_report Sequence = refused 20
start_report Body = refused 20
start_report Escaped = refused 20

-- four bytes that are a frame's header
abbrev pub is_header : ℕ → ℕ → ℕ → ℕ → Bool
is_header a b c d = eqb a start_mark && (eqb b packet_id && (eqb c error_id && not (is_mark d)))

unfoldable pub header_at : List ℕ → ℕ → Bool
header_at l i =
    cond (ltb (length l - i) 4) false (is_header (get_or l i 0) (get_or l (i + 1) 0) (get_or l (i + 2) 0) (get_or l (i + 3) 0))

-- passing bytes i to j loses nothing: what is left of the bytes gives what was left before
pub record Onward (limit : ℕ) (bytes : List ℕ) (s : Progress) (l : List ℕ) (i : ℕ) (s' : Progress) (l' : List ℕ) (j : ℕ) : Type 0 where
  pub from : i ≤ j
  pub within : j ≤ length bytes
  pub fits : Fits limit s' l'
  pub rest : feed_from limit j s' l' (drop j bytes) ≡ feed_from limit i s l (drop i bytes)
