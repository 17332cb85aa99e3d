-- No byte is refused by 1: only a buffer or a state is.
use Prim.Native.Nat.{ℕ, ◌+◌, ◌-◌}
use mathlib.Core.Path.{◌≡◌}
use mathlib.Core.Bool.{Bool, true, false, cond, not}
use mathlib.Core.List.{List, [], ◌∷◌}
use native.Mathlib.Omega.{arith}
use lib.ListN.{set}
use lib.Dec.{eqb, ltb}
use Rattle.classic_frame.specs.declared.mark.Kind.{Kind}
use Rattle.classic_frame.specs.declared.mark.Kind.TheVariants.{Start, End, Escape, Plain}
use Rattle.classic_frame.specs.Mark.{kind_of}
use Rattle.classic_frame.specs.Frame.{packet_id, error_id, start_code, end_code, escape_code, checked}
use Rattle.classic_extractor.specs.declared.state.Phase.{Phase}
use Rattle.classic_extractor.specs.declared.state.Phase.TheVariants.{Outside, PacketId, ErrorId, Sequence, Body, Escaped}
use Rattle.classic_extractor.specs.declared.state.Progress.{Progress}
use Rattle.classic_extractor.specs.Action.{Action, Skip, Begin, Restart, Go, Number, Store, Finish, Refuse, outside_by, header_by, sequence_by, body_by, code_of, code_by, action_by}
use Rattle.classic_extractor.specs.Outcome.{Report, skipped, taken, all_used, frame, refused, number_of}
use Rattle.classic_extractor.specs.State.{outside, body}
use Rattle.classic_extractor.specs.Step.{step, advance_of, perform_of, store_of, end_of}
use Rattle.classic_feed.specs.Feed.{decides, feed_report, feed_from, fed}
use Rattle.c_classic.specs.Convert.{reply_of}

-- a report that is not a refusal by 1
abbrev NotOne : Report → Type 0
NotOne r = (reply_of r).number ≡ 1 → ⊥

-- an action that does not refuse by 1
abbrev Named : Action → Type 0
Named Skip = Unit {0}
Named Begin = Unit {0}
Named Restart = Unit {0}
Named (Go p) = Unit {0}
Named Number = Unit {0}
Named (Store x) = Unit {0}
Named Finish = Unit {0}
Named (Refuse r) = number_of r ≡ 1 → ⊥

either-named : (t : Bool) (a b : Action) → Named a → Named b → Named (cond t a b)
either-named true a b p q = p
either-named false a b p q = q

header-named : (k : Kind) (wanted : ℕ) (next : Phase) (b : ℕ) → Named (header_by k wanted next b)
header-named Start wanted next b = tt
header-named End wanted next b = λ e. omega arith
header-named Escape wanted next b = λ e. omega arith
header-named Plain wanted next b = either-named (eqb b wanted) (Go next) _ tt (λ e. omega arith)

code-named : (b : ℕ) → Named (code_of b)
unfolding code_of
code-named b = either-named (eqb b start_code) _ _ tt (either-named (eqb b end_code) _ _ tt (either-named (eqb b escape_code) _ _ tt (λ e. omega arith)))

code-by-named : (k : Kind) (b : ℕ) → Named (code_by k b)
code-by-named Start b = tt
code-by-named End b = λ e. omega arith
code-by-named Escape b = λ e. omega arith
code-by-named Plain b = code-named b

sequence-named : (k : Kind) → Named (sequence_by k)
sequence-named Start = tt
sequence-named End = λ e. omega arith
sequence-named Escape = λ e. omega arith
sequence-named Plain = tt

outside-named : (k : Kind) → Named (outside_by k)
outside-named Start = tt
outside-named End = tt
outside-named Escape = tt
outside-named Plain = tt

body-named : (k : Kind) (b : ℕ) → Named (body_by k b)
body-named Start b = tt
body-named End b = tt
body-named Escape b = tt
body-named Plain b = tt

action-named : (p : Phase) (k : Kind) (b : ℕ) → Named (action_by p k b)
action-named Outside k b = outside-named k
action-named PacketId k b = header-named k packet_id ErrorId b
action-named ErrorId k b = header-named k error_id Sequence b
action-named Sequence k b = sequence-named k
action-named Body k b = body-named k b
action-named Escaped k b = code-by-named k b

store-not-one : (limit : ℕ) (s : Progress) (l : List ℕ) (x : ℕ) → NotOne (store_of limit s l x).report
unfolding store_of
store-not-one limit s l x = go (ltb s.held (limit + 2))
  where
    go : (t : Bool) → NotOne (cond t (step taken (body s.sequence (s.held + 1)) (set l s.held x)) (step (refused 24) outside l)).report
    go true = λ e. omega arith
    go false = λ e. omega arith

end-not-one : (s : Progress) (l : List ℕ) → NotOne (end_of s l)
unfolding end_of
end-not-one s l = go (ltb s.held 2) (not (checked l (s.held - 2)))
  where
    go : (t u : Bool) → NotOne (cond t (refused 21) (cond u (refused 25) (frame s.sequence (s.held - 2))))
    go true u = λ e. omega arith
    go false true = λ e. omega arith
    go false false = λ e. omega arith

perform-not-one : (limit : ℕ) (s : Progress) (l : List ℕ) (b : ℕ) (a : Action) → Named a → NotOne (perform_of limit s l b a).report
perform-not-one limit s l b Skip n = λ e. omega arith
perform-not-one limit s l b Begin n = λ e. omega arith
perform-not-one limit s l b Restart n = λ e. omega arith
perform-not-one limit s l b (Go p) n = λ e. omega arith
perform-not-one limit s l b Number n = λ e. omega arith
perform-not-one limit s l b (Store x) n = store-not-one limit s l x
perform-not-one limit s l b Finish n = end-not-one s l
perform-not-one limit s l b (Refuse r) n = n

pub advance-not-one : (limit : ℕ) (s : Progress) (l : List ℕ) (b : ℕ) → NotOne (advance_of limit s l b).report
unfolding advance_of
advance-not-one limit s l b = perform-not-one limit s l b (action_by s.phase (kind_of b) b) (action-named s.phase (kind_of b) b)

-- what many bytes report is what the byte that decides reports
report-not-one : (r : Report) → NotOne r → NotOne (feed_report r)
report-not-one skipped n = n
report-not-one taken n = λ e. omega arith
report-not-one all_used n = n
report-not-one (frame sequence k) n = n
report-not-one (refused k) n = n

-- a byte decides, or the bytes after it do
decided-not-one : (limit n : ℕ) (s : Progress) (l : List ℕ) (b : ℕ) (bs : List ℕ) (t : Bool)
    → let a = advance_of limit s l b in
    NotOne (feed_from limit (n + 1) a.next a.buffer bs).report
    → NotOne (cond t (fed (feed_report a.report) (n + 1) a.next a.buffer) (feed_from limit (n + 1) a.next a.buffer bs)).report
decided-not-one limit n s l b bs true later = report-not-one (advance_of limit s l b).report (advance-not-one limit s l b)
decided-not-one limit n s l b bs false later = later

pub feed-not-one : (limit n : ℕ) (s : Progress) (l bytes : List ℕ) → NotOne (feed_from limit n s l bytes).report
unfolding feed_from
feed-not-one limit n s l [] = λ e. omega arith
feed-not-one limit n s l (b ∷ bs) =
    decided-not-one limit n s l b bs (decides (advance_of limit s l b).report) (feed-not-one limit (n + 1) (advance_of limit s l b).next (advance_of limit s l b).buffer bs)
