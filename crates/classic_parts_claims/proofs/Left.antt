-- What is left of a frame in each state, and one byte of it.
use Prim.Native.Nat.{ℕ, zero, suc, ◌+◌, ◌/◌, ◌%◌, ◌<◌, zero-le}
use mathlib.Core.Path.{◌≡◌, refl, sym, ap, ◌∙◌}
use mathlib.Core.Bool.{Bool, true, false, cond, not, ◌&&◌, false≢true}
use mathlib.Core.List.{List, [], ◌∷◌, ◌++◌, append_assoc}
use native.Mathlib.Nat.{add-zero, zero-add, suc-add, add_assoc, mod-add-mod, mod-eq_of_lt}
use native.Mathlib.Numerals.{one-add}
use native.Mathlib.Omega.{arith}
use lib.ListN.{length, take, length-append}
use lib.Dec.{ltb}
use borrow.Author.Tests.{lt-ltb, le-ltb, ltb-true, ltb-false}
use Rattle.classic_frame.specs.declared.mark.Kind.{Kind}
use Rattle.classic_frame.specs.declared.mark.Kind.TheVariants.{Start, End, Escape, Plain}
use Rattle.classic_frame.specs.Mark.{start_mark, end_mark, kind_of, is_mark_kind}
use Rattle.classic_frame.specs.Frame.{packet_id, error_id, start_code, end_code, escape_code, escaped_by, escaped_of, sum_of, checksum_of, frame_of}
use Rattle.classic_writer.proofs.Escaping.{frame-parts}
use Rattle.classic_parts.specs.declared.state.Stage.{Stage}
use Rattle.classic_parts.specs.declared.state.Stage.TheVariants as stage
use Rattle.classic_parts.specs.declared.state.PartProgress.{PartProgress}
use Rattle.classic_parts.specs.State.{start_of, is_done, ended}
use Rattle.classic_parts.specs.Byte.{first_by, took, Byte, nothing, byte, payload_byte, body_byte, closing, stage_byte, pending_byte, byte_of}
use Rattle.classic_parts_claims.specs.Joined.{firsts_among, begun_in}

-- ---- what is left

-- the code that follows the first byte of what a byte becomes
abbrev pub codes : Kind → List ℕ
codes Start = start_code ∷ []
codes End = end_code ∷ []
codes Escape = escape_code ∷ []
codes Plain = []

split-unit : (k : Kind) (b : ℕ) → escaped_by k b ≡ first_by k b ∷ codes k
split-unit Start b = refl
split-unit End b = refl
split-unit Escape b = refl
split-unit Plain b = refl

-- the low byte of a checksum and the end mark, and both bytes of it
unfoldable pub low_of : ℕ → List ℕ
low_of c = escaped_by (kind_of (c % 256)) (c % 256) ++ (end_mark ∷ [])

unfoldable pub high_of : ℕ → List ℕ
high_of c = escaped_by (kind_of (c / 256)) (c / 256) ++ low_of c

-- the payload that is left, and the checksum after it: `sum` is that of the bytes taken
abbrev body_of : ℕ → List ℕ → List ℕ
body_of sum p = escaped_of p ++ high_of ((sum + sum_of p) % 65536)

-- what is left of the frame where p is left of the payload
abbrev stage_of : Stage → ℕ → ℕ → List ℕ → List ℕ
stage_of stage.Start sequence sum p = start_mark ∷ packet_id ∷ error_id ∷ sequence ∷ body_of sum p
stage_of stage.PacketId sequence sum p = packet_id ∷ error_id ∷ sequence ∷ body_of sum p
stage_of stage.ErrorId sequence sum p = error_id ∷ sequence ∷ body_of sum p
stage_of stage.Sequence sequence sum p = sequence ∷ body_of sum p
stage_of stage.Payload sequence sum p = body_of sum p
stage_of stage.Low sequence sum p = low_of sum
stage_of stage.End sequence sum p = end_mark ∷ []
stage_of stage.Done sequence sum p = []

unfoldable pub left_of : PartProgress → List ℕ → List ℕ
left_of s p = codes s.pending ++ stage_of s.stage s.sequence s.sum p

-- ---- the first output bytes of the payload left

-- how many bytes stand before it
abbrev lead : Stage → ℕ
lead stage.Start = 4
lead stage.PacketId = 3
lead stage.ErrorId = 2
lead stage.Sequence = 1
lead stage.Payload = 0
lead stage.Low = 0
lead stage.End = 0
lead stage.Done = 0

-- how many of them are among the next n
unfoldable pub firsts_in : ℕ → PartProgress → List ℕ → ℕ
firsts_in n s p = firsts_among n (length (codes s.pending) + lead s.stage) p

ltb-suc : (m n : ℕ) → ltb (suc m) (suc n) ≡ ltb m n
ltb-suc m n = go (ltb m n) refl
  where
    go : (b : Bool) → ltb m n ≡ b → ltb (suc m) (suc n) ≡ ltb m n
    go true e = lt-ltb (suc m) (suc n) (omega (arith, ltb-true m n e)) ∙ sym e
    go false e = le-ltb (suc m) (suc n) (omega (arith, ltb-false m n e)) ∙ sym e

-- one byte further
among-shift : (n place : ℕ) (p : List ℕ) → firsts_among (suc n) (suc place) p ≡ firsts_among n place p
unfolding firsts_among
among-shift n place [] = refl
among-shift n place (b ∷ bs) = rw (ltb-suc place n, suc-add place (length (escaped_by (kind_of b) b)), among-shift n (place + length (escaped_by (kind_of b) b)) bs)

among_none : (place : ℕ) (p : List ℕ) → firsts_among 0 place p ≡ 0
unfolding firsts_among
among_none place [] = refl
among_none place (b ∷ bs) = rw (le-ltb place 0 zero-le, among_none (place + length (escaped_by (kind_of b) b)) bs)

-- the first of a payload byte
among-taken : (m x : ℕ) (xs : List ℕ) → firsts_among (suc m) 0 (x ∷ xs) ≡ suc (firsts_among m (length (codes (kind_of x)) + 0) xs)
unfolding firsts_among
among-taken m x xs =
    let n = length (codes (kind_of x)) in
    let size : 0 + length (escaped_by (kind_of x) x) ≡ suc (n + 0) = rw (split-unit (kind_of x) x) (omega arith) in
    let up : 1 + firsts_among m (n + 0) xs ≡ suc (firsts_among m (n + 0) xs) = omega arith in
    rw (lt-ltb 0 (suc m) (omega arith), size, among-shift m (n + 0) xs) up

pub firsts-none : (s : PartProgress) (p : List ℕ) → firsts_in 0 s p ≡ 0
unfolding firsts_in
firsts-none s p = among_none (length (codes s.pending) + lead s.stage) p

-- ---- one byte

-- what holds of the payload left after the last byte of it is taken
abbrev Closed : Stage → List ℕ → Type 0
Closed stage.Start p = Unit {0}
Closed stage.PacketId p = Unit {0}
Closed stage.ErrorId p = Unit {0}
Closed stage.Sequence p = Unit {0}
Closed stage.Payload p = Unit {0}
Closed stage.Low p = p ≡ []
Closed stage.End p = p ≡ []
Closed stage.Done p = p ≡ []

-- a state and the payload that is left
pub record PartFits (s : PartProgress) (p : List ℕ) : Type 0 where
  pub told : s.taken + length p ≡ s.total
  pub small : s.sum < 65536
  pub closed : Closed s.stage p

-- sequence and total stay
abbrev pub SameFrame : PartProgress → PartProgress → Type 0
SameFrame next s = (next.sequence ≡ s.sequence) × (next.total ≡ s.total)

-- one output byte where n of the bytes left are offered: none, one that needs no payload, or the first of a payload byte
pub data Emits (s : PartProgress) : List ℕ → ℕ → Byte → Type 0 where
  ends : {n : ℕ} → left_of s [] ≡ [] → Emits s [] n nothing
  starves : {x : ℕ} {xs : List ℕ} → Emits s (x ∷ xs) 0 nothing
  own : {n : ℕ} (b : ℕ) (p : List ℕ) (next : PartProgress) → left_of s p ≡ b ∷ left_of next p → PartFits next p → SameFrame next s
      → ((m : ℕ) → firsts_in (suc m) s p ≡ firsts_in m next p) → Emits s p n (byte b next 0)
  takes : {n : ℕ} (b x : ℕ) (xs : List ℕ) (next : PartProgress) → left_of s (x ∷ xs) ≡ b ∷ left_of next xs → PartFits next xs → SameFrame next s
      → ((m : ℕ) → firsts_in (suc m) s (x ∷ xs) ≡ suc (firsts_in m next xs)) → Emits s (x ∷ xs) (suc n) (byte b next 1)

abbrev state : Stage → Kind → ℕ → ℕ → ℕ → ℕ → PartProgress
state at k sequence total taken sum = record { sequence = sequence; total = total; taken = taken; sum = sum; stage = at; pending = k }

sum_step : (c x rest : ℕ) → (c + (x + rest)) % 65536 ≡ ((c + x) % 65536 + rest) % 65536
sum_step c x rest = sym (mod-add-mod (c + x) 65536 rest ∙ ap (λ (n : ℕ). n % 65536) (add_assoc c x rest))

module _ (q t h c : ℕ) where
  code_view : (to : Stage) (k : Kind) (p : List ℕ) (n b : ℕ) → codes k ≡ b ∷ [] → PartFits (state to k q t h c) p
      → Emits (state to k q t h c) p n (byte b (state to Plain q t h c) 0)
  unfolding left_of firsts_in
  code_view to k p n b e f =
      own b p (state to Plain q t h c) (rw e) (record { told = f.told; small = f.small; closed = f.closed }) (refl, refl)
      (λ m. rw (e, one-add, zero-add) (among-shift m (lead to) p))

  -- a payload byte is taken
  takes-view : (x : ℕ) (xs : List ℕ) (n : ℕ) → PartFits (state stage.Payload Plain q t h c) (x ∷ xs)
      → Emits (state stage.Payload Plain q t h c) (x ∷ xs) (suc n) (byte (first_by (kind_of x) x) (took (state stage.Payload Plain q t h c) x) 1)
  unfolding left_of escaped_of sum_of firsts_in
  takes-view x xs n f =
      takes (first_by (kind_of x) x) x xs (took (state stage.Payload Plain q t h c) x)
      (rw (split-unit (kind_of x) x, append_assoc, sum_step c x (sum_of xs)))
      (record { told = omega (arith, f.told); small = omega arith; closed = tt })
      (refl, refl)
      (λ m. among-taken m x xs)

  -- the high byte of the checksum
  high-view : (n : ℕ) → PartFits (state stage.Payload Plain q t h c) []
      → Emits (state stage.Payload Plain q t h c) [] n (closing (state stage.Payload Plain q t h c) (c / 256) stage.Low)
  unfolding left_of escaped_of sum_of high_of firsts_in firsts_among
  high-view n f =
      own (first_by (kind_of (c / 256)) (c / 256)) [] (state stage.Low (kind_of (c / 256)) q t h c)
      (rw (add-zero, mod-eq_of_lt f.small, split-unit (kind_of (c / 256)) (c / 256)))
      (record { told = f.told; small = f.small; closed = refl }) (refl, refl) (λ m. refl)

  body-view : (p : List ℕ) (n : ℕ) (b : Bool) → ltb h t ≡ b → PartFits (state stage.Payload Plain q t h c) p
      → (let s = state stage.Payload Plain q t h c in Emits s p n (cond b (payload_byte s (take n p)) (closing s (c / 256) stage.Low)))
  body-view [] n true e f = absurd (omega (arith, f.told, ltb-true h t e))
  body-view (x ∷ xs) zero true e f = starves
  body-view (x ∷ xs) (suc n) true e f = takes-view x xs n f
  body-view [] n false e f = high-view n f
  body-view (x ∷ xs) n false e f = absurd (omega (arith, f.told, ltb-false h t e))

  -- after the payload nothing of it is left
  none_left : (m a b : ℕ) (p : List ℕ) → p ≡ [] → firsts_among (suc m) a p ≡ firsts_among m b p
  unfolding firsts_among
  none_left m a b p e = rw e

  stage-view : (at : Stage) (p : List ℕ) (n : ℕ) → PartFits (state at Plain q t h c) p
      → (let s = state at Plain q t h c in Emits s p n (stage_byte at s (take n p)))
  unfolding left_of body_byte low_of firsts_in
  stage-view stage.Start p n f = own _ p _ refl (record { told = f.told; small = f.small; closed = tt }) (refl, refl) (λ m. among-shift m 3 p)
  stage-view stage.PacketId p n f = own _ p _ refl (record { told = f.told; small = f.small; closed = tt }) (refl, refl) (λ m. among-shift m 2 p)
  stage-view stage.ErrorId p n f = own _ p _ refl (record { told = f.told; small = f.small; closed = tt }) (refl, refl) (λ m. among-shift m 1 p)
  stage-view stage.Sequence p n f = own _ p _ refl (record { told = f.told; small = f.small; closed = tt }) (refl, refl) (λ m. among-shift m 0 p)
  stage-view stage.Payload p n f = body-view p n (ltb h t) refl f
  stage-view stage.Low p n f =
      own (first_by (kind_of (c % 256)) (c % 256)) p (state stage.End (kind_of (c % 256)) q t h c) (rw (split-unit (kind_of (c % 256)) (c % 256)))
      (record { told = f.told; small = f.small; closed = f.closed }) (refl, refl) (λ m. none_left m _ _ p f.closed)
  stage-view stage.End p n f =
      own end_mark p (state stage.Done Plain q t h c) refl (record { told = f.told; small = f.small; closed = f.closed }) (refl, refl) (λ m. none_left m _ _ p f.closed)
  stage-view stage.Done p n f = rw f.closed (ends refl)

  kind-view : (at : Stage) (k : Kind) (p : List ℕ) (n : ℕ) → PartFits (state at k q t h c) p
      → (let s = state at k q t h c in Emits s p n (pending_byte k s (take n p)))
  kind-view at Start p n f = code_view at Start p n start_code refl f
  kind-view at End p n f = code_view at End p n end_code refl f
  kind-view at Escape p n f = code_view at Escape p n escape_code refl f
  kind-view at Plain p n f = stage-view at p n f

pub view : (s : PartProgress) (p : List ℕ) (n : ℕ) → PartFits s p → Emits s p n (byte_of s (take n p))
unfolding byte_of
view s p n f = kind-view s.sequence s.total s.taken s.sum s.stage s.pending p n f

-- ---- at the start all of the frame is left

pub start_left : (sequence n : ℕ) (p : List ℕ) → left_of (start_of sequence n) p ≡ frame_of sequence p
unfolding left_of high_of low_of
start_left sequence n p = sym (frame-parts sequence p (checksum_of p / 256) (checksum_of p % 256))

pub start_fits : (sequence : ℕ) (p : List ℕ) → PartFits (start_of sequence (length p)) p
start_fits sequence p = record { told = zero-add (length p); small = omega arith; closed = tt }

pub start-firsts : (m sequence n : ℕ) (p : List ℕ) → firsts_in m (start_of sequence n) p ≡ begun_in m sequence p
unfolding firsts_in
start-firsts m sequence n p = refl

-- ---- the end: nothing is left

stage-done : (at : Stage) (q c : ℕ) (p : List ℕ) → length (stage_of at q c p) ≡ 0 → is_done at ≡ true
unfolding high_of low_of
stage-done stage.Start q c p e = absurd (omega (arith, e))
stage-done stage.PacketId q c p e = absurd (omega (arith, e))
stage-done stage.ErrorId q c p e = absurd (omega (arith, e))
stage-done stage.Sequence q c p e = absurd (omega (arith, e))
stage-done stage.Payload q c p e = absurd (omega (arith, simp length-append at e))
stage-done stage.Low q c p e = absurd (omega (arith, simp length-append at e))
stage-done stage.End q c p e = absurd (omega (arith, e))
stage-done stage.Done q c p e = refl

kind-done : (k : Kind) → length (codes k) ≡ 0 → is_mark_kind k ≡ false
kind-done Start e = absurd (omega (arith, e))
kind-done End e = absurd (omega (arith, e))
kind-done Escape e = absurd (omega (arith, e))
kind-done Plain e = refl

pub left_ended : (s : PartProgress) (p : List ℕ) → length (left_of s p) ≡ 0 → ended s ≡ true
unfolding left_of
left_ended s p e =
    let rest = stage_of s.stage s.sequence s.sum p in
    let size = length-append (codes s.pending) rest in
    rw (stage-done s.stage s.sequence s.sum p (omega (arith, size, e)), kind-done s.pending (omega (arith, size, e)))

-- .. and the other way
ended-state : (at : Stage) (k : Kind) (q c : ℕ) (p : List ℕ) → (is_done at && not (is_mark_kind k)) ≡ true → codes k ++ stage_of at q c p ≡ []
ended-state stage.Start k q c p e = absurd (false≢true e)
ended-state stage.PacketId k q c p e = absurd (false≢true e)
ended-state stage.ErrorId k q c p e = absurd (false≢true e)
ended-state stage.Sequence k q c p e = absurd (false≢true e)
ended-state stage.Payload k q c p e = absurd (false≢true e)
ended-state stage.Low k q c p e = absurd (false≢true e)
ended-state stage.End k q c p e = absurd (false≢true e)
ended-state stage.Done Start q c p e = absurd (false≢true e)
ended-state stage.Done End q c p e = absurd (false≢true e)
ended-state stage.Done Escape q c p e = absurd (false≢true e)
ended-state stage.Done Plain q c p e = refl

pub ended-left : (s : PartProgress) (p : List ℕ) → ended s ≡ true → left_of s p ≡ []
unfolding left_of
ended-left s p e = ended-state s.stage s.pending s.sequence s.sum p e
