-- The claim of specs/Premises.antt.
use Prim.Native.Nat.{ℕ, zero, suc, ◌+◌, ◌≤◌, ◌<◌}
use mathlib.Core.Path.{◌≡◌, refl}
use mathlib.Core.Bool.{true, false, cond, not, true≢false}
use mathlib.Core.List.{List, [], ◌∷◌, map}
use native.Mathlib.Omega.{arith}
use lib.ListN.{length, take, drop, get_or, length-drop}
use lib.Dec.{eqb, leb}
use borrow.Author.Tests.{eq-eqb, le-leb, eqb-true, leb-true, not-true}
use Rattle.wire.specs.Bytes.{AllBytes}
use Rattle.wire.proofs.Limits.{range-limit, limit-range}
use Rattle.wire.proofs.Tests.{and_left, and_right}
use Rattle.classic_frame.specs.Mark.{kind_of, is_mark}
use Rattle.classic_writer.specs.Sending.{NoMark}
use Rattle.classic_writer.proofs.Sending.{no-mark, sendable-when, sent-frame}
use Rattle.classic_extractor.specs.declared.state.Progress.{Progress}
use Rattle.classic_extractor.specs.declared.state.Phase.{Phase}
use Rattle.classic_extractor.specs.declared.state.Phase.TheVariants.{Outside, PacketId, ErrorId, Sequence, Body, Escaped}
use Rattle.classic_extractor.specs.State.{sequence_read, lawful_before, lawful_after, lawful, ready}
use Rattle.classic_extractor.specs.Step.{advance_of}
use Rattle.classic_feed.specs.Feed.{Feed, decides, feed_from}
use Rattle.classic_claims.specs.Run.{call_of, run_of}
use Rattle.classic_claims.specs.Premises.{LawfulIn, asking, TurnedWhen, ClosingWhen, StandingWhen, StandingOnly, AllUsedWhen, FactsSuffice}
use Rattle.classic_claims.proofs.Ready.{of-cond, is-ready, feed-ready}
use Rattle.classic_claims.proofs.Cut.{feed-later, call-keeps}

all-bytes : (l : List ℕ) → ((i : ℕ) → i < length l → get_or l i 0 < 256) → AllBytes l
all-bytes [] h = tt
all-bytes (x ∷ xs) h = (h 0 (omega arith), all-bytes xs (λ i k. h (suc i) (omega arith)))

turned-when : TurnedWhen
turned-when bytes place new inside was byte is other =
    record { inside = inside; was_plain = no-mark (get_or bytes place 0) was; is_plain = no-mark new is; byte = byte; other = other }

closing-when : ClosingWhen
closing-when =
    record {
      none = λ limit. tt;
      whole-first = λ limit m is w c. (w, c);
      damaged-first = λ limit m place new is w b o t c. (w, all-bytes m.payload b, o, rw (sent-frame limit m w) t, c);
    }

-- ---- lawful states

lawful-before : (sequence held : ℕ) → (sequence ≡ 0) × (held ≡ 0) → lawful_before sequence held ≡ true
lawful-before sequence held h = rw (eq-eqb sequence 0 h.0, eq-eqb held 0 h.1)

lawful-after : (limit sequence held : ℕ) → NoMark sequence × (held ≤ limit + 2) → lawful_after limit sequence held ≡ true
lawful-after limit sequence held h = rw (no-mark sequence h.0, le-leb held (limit + 2) h.1)

lawful-in : (p : Phase) (limit sequence held : ℕ) → LawfulIn p limit sequence held
    → cond (sequence_read p) (lawful_after limit sequence held) (lawful_before sequence held) ≡ true
lawful-in Outside limit sequence held h = lawful-before sequence held h
lawful-in PacketId limit sequence held h = lawful-before sequence held h
lawful-in ErrorId limit sequence held h = lawful-before sequence held h
lawful-in Sequence limit sequence held h = lawful-before sequence held h
lawful-in Body limit sequence held h = lawful-after limit sequence held h
lawful-in Escaped limit sequence held h = lawful-after limit sequence held h

standing-when : StandingWhen
unfolding lawful
standing-when limit s l low high byte h n = record { range = range-limit limit low high; state = lawful-in s.phase limit s.sequence s.held h; size = n }

marks-not : (b : ℕ) → is_mark b ≡ false → NoMark b
unfolding kind_of
marks-not b h = (λ e. true≢false (rw e at h), λ e. true≢false (rw e at h), λ e. true≢false (rw e at h))

before-only : (sequence held : ℕ) → lawful_before sequence held ≡ true → (sequence ≡ 0) × (held ≡ 0)
before-only sequence held h = (eqb-true sequence 0 (and_left (eqb sequence 0) (eqb held 0) h), eqb-true held 0 (and_right (eqb sequence 0) (eqb held 0) h))

after-only : (limit sequence held : ℕ) → lawful_after limit sequence held ≡ true → NoMark sequence × (held ≤ limit + 2)
after-only limit sequence held h =
    (marks-not sequence (not-true (is_mark sequence) (and_left (not (is_mark sequence)) (leb held (limit + 2)) h)), leb-true held (limit + 2) (and_right (not (is_mark sequence)) (leb held (limit + 2)) h))

only-in : (p : Phase) (limit sequence held : ℕ) → cond (sequence_read p) (lawful_after limit sequence held) (lawful_before sequence held) ≡ true
    → LawfulIn p limit sequence held
only-in Outside limit sequence held h = before-only sequence held h
only-in PacketId limit sequence held h = before-only sequence held h
only-in ErrorId limit sequence held h = before-only sequence held h
only-in Sequence limit sequence held h = before-only sequence held h
only-in Body limit sequence held h = after-only limit sequence held h
only-in Escaped limit sequence held h = after-only limit sequence held h

standing-only : StandingOnly
unfolding lawful
standing-only limit s l a =
    let range = limit-range limit a.range in
    (range.0, range.1, only-in s.phase limit s.sequence s.held a.state)

-- ---- calls that use all bytes

module _ (limit : ℕ) where
  feed-uses : (s : Progress) (l : List ℕ) (b : ℕ) (bs : List ℕ) → 1 ≤ (feed_from limit 0 s l (b ∷ bs)).used
  unfolding feed_from
  feed-uses s l b bs =
      let r = advance_of limit s l b in
      of-cond (λ (f : Feed). 1 ≤ f.used) (decides r.report) (omega arith) (rw (feed-later limit bs 1 r.next r.buffer) (omega arith))

  -- a call that asks for a byte uses one, if there is one
  call-uses : (n : ℕ) (s : Progress) (l : List ℕ) (b : ℕ) (bs : List ℕ) → ready limit s (length l) ≡ true
      → 1 ≤ (call_of limit (asking n) s l (b ∷ bs)).used
  unfolding call_of
  call-uses zero s l b bs h = omega arith
  call-uses (suc n) s l b bs h = rw (feed-ready limit s l (b ∷ take n bs) h) (feed-uses s l b (take n bs))

  left : (n k : ℕ) (s : Progress) (l bytes : List ℕ) → ready limit s (length l) ≡ true → length bytes ≤ suc k
      → length (drop (call_of limit (asking n) s l bytes).used bytes) ≤ k
  left n k s l [] h m = simp length-drop (omega arith)
  left n k s l (b ∷ bs) h m = simp length-drop (omega (arith, call-uses n s l b bs h))

  none_left : (bytes : List ℕ) → length bytes ≤ 0 → bytes ≡ []
  none_left [] h = refl
  none_left (b ∷ bs) h = absurd (omega arith)

  calls-use : (sizes : List ℕ) (n : ℕ) (s : Progress) (l bytes : List ℕ) → ready limit s (length l) ≡ true → length bytes ≤ length sizes
      → (run_of limit (map asking sizes) n s l bytes).unused ≡ []
  unfolding run_of
  calls-use [] n s l bytes h k = none_left bytes k
  calls-use (z ∷ zs) n s l bytes h k =
      let f = call_of limit (asking z) s l bytes in
      calls-use zs (n + f.used) f.next f.buffer (drop f.used bytes) (call-keeps limit (asking z) s l bytes h) (left z (length zs) s l bytes h k)

all-used-when : AllUsedWhen
all-used-when limit s l bytes sizes a k = calls-use limit sizes 0 s l bytes (is-ready limit s l a.range a.state a.size) k

pub facts-suffice : FactsSuffice
facts-suffice = record { sendable = sendable-when; turned = turned-when; closing = closing-when; standing = standing-when; standing-only = standing-only; used = all-used-when }
