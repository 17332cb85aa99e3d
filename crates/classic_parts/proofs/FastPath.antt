-- Laws of the fast path: payload bytes that are written at once are the same as their bytes one by one.
use Prim.Native.Nat.{ℕ, zero, suc, ◌+◌, ◌-◌, ◌%◌, ◌<◌, ◌≤◌}
use mathlib.Core.Path.{◌≡◌, refl, sym, ap, ◌∙◌}
use mathlib.Core.Bool.{Bool, true, false, not, ◌&&◌, false≢true}
use mathlib.Core.List.{List, [], ◌∷◌, ◌++◌}
use native.Mathlib.Nat.{add-zero, zero-add, suc-add, add_assoc, mod-add-mod, mod-eq_of_lt}
use native.Mathlib.Numerals.{add-one}
use native.Mathlib.Omega.{arith}
use lib.ListN.{length, take, drop, get_or, set, length-append, take-append-drop}
use lib.Seq.{sets, length-sets, drop-cons, drop-drop}
use lib.Dec.{ltb, leb}
use borrow.Author.Tests.{lt-ltb, ltb-true, leb-true, not-true}
use Rattle.wire.specs.Scan.{any_in_range, Copied}
use Rattle.wire.proofs.Runs.{any-first, part-long, part_none, part_length, part-stored}
use Rattle.wire.proofs.Stores.{sets-append}
use Rattle.wire.proofs.Tests.{and_left, and_right}
use Rattle.classic_frame.specs.declared.mark.Kind.{Kind}
use Rattle.classic_frame.specs.declared.mark.Kind.TheVariants.{Start, End, Escape, Plain}
use Rattle.classic_frame.specs.Mark.{start_mark, escape_mark, kind_of, is_mark_kind, is_mark}
use Rattle.classic_frame.specs.Frame.{code_for, escaped_by, sum_of}
use Rattle.classic_frame.proofs.Marks.{clear-plain, unmarked-plain, mark-escaped}
use Rattle.classic_parts.specs.declared.state.Stage.{Stage}
use Rattle.classic_parts.specs.declared.state.Stage.TheVariants as stage
use Rattle.classic_parts.specs.declared.state.PartProgress.{PartProgress}
use Rattle.classic_parts.specs.State.{missing, is_payload, in_payload}
use Rattle.classic_parts.specs.Byte.{body_byte, byte_of}
use Rattle.classic_parts.specs.Fill.{Filled, fill_of}
use Rattle.classic_parts.specs.FastPath.{body, resumed, PartOnward}

-- ---- bytes that are passed

module _ {payload : List ℕ} where
  pub onward-here : {s : PartProgress} {out : List ℕ} {taken i : ℕ} → taken ≤ length payload → i ≤ length out → PartOnward payload s out taken i s out taken i
  onward-here h k = record { from = omega arith; within = k; offered = h; same = refl; rest = refl }

  pub onward_then : {s₀ : PartProgress} {o₀ : List ℕ} {t₀ i₀ : ℕ} {s₁ : PartProgress} {o₁ : List ℕ} {t₁ i₁ : ℕ} {s₂ : PartProgress} {o₂ : List ℕ} {t₂ i₂ : ℕ}
      → PartOnward payload s₀ o₀ t₀ i₀ s₁ o₁ t₁ i₁ → PartOnward payload s₁ o₁ t₁ i₁ s₂ o₂ t₂ i₂ → PartOnward payload s₀ o₀ t₀ i₀ s₂ o₂ t₂ i₂
  onward_then x y =
      record {
        from = omega (arith, x.from, y.from);
        within = omega (arith, y.within, x.same);
        offered = y.offered;
        same = y.same ∙ x.same;
        rest = (rw x.same at y.rest) ∙ x.rest;
      }

-- ---- the state

is-payload : (at : Stage) → is_payload at ≡ true → at ≡ stage.Payload
is-payload stage.Start e = absurd (false≢true e)
is-payload stage.PacketId e = absurd (false≢true e)
is-payload stage.ErrorId e = absurd (false≢true e)
is-payload stage.Sequence e = absurd (false≢true e)
is-payload stage.Payload e = refl
is-payload stage.Low e = absurd (false≢true e)
is-payload stage.End e = absurd (false≢true e)
is-payload stage.Done e = absurd (false≢true e)

body-state : (s : PartProgress) → in_payload s ≡ true → s ≡ body s.sequence s.total s.taken s.sum
body-state s e =
    let at = is-payload s.stage (and_left (is_payload s.stage) (not (is_mark_kind s.pending)) e) in
    let none = unmarked-plain s.pending (not-true (is_mark_kind s.pending) (and_right (is_payload s.stage) (not (is_mark_kind s.pending)) e)) in
    rw (← at, ← none)

-- a mark stands inside the payload: past its end there is none
pub mark-inside : (l : List ℕ) (i : ℕ) → is_mark (get_or l i 0) ≡ true → i < length l
unfolding kind_of
mark-inside [] i e = absurd (false≢true e)
mark-inside (x ∷ xs) zero e = omega arith
mark-inside (x ∷ xs) (suc i) e = omega (arith, mark-inside xs i e)

-- what the test of a pair tells
pub pair-facts : {m f r : Bool} (b taken total room : ℕ) → m ≡ is_mark b → f ≡ (ltb taken total && leb 2 room) → r ≡ (m && f) → r ≡ true
    → (is_mark b ≡ true) × (taken < total) × (2 ≤ room)
pair-facts {m} {f} b taken total room mark fits all e =
    let yes = sym all ∙ e in
    let free = sym fits ∙ and_right m f yes in
    (sym mark ∙ and_left m f yes, ltb-true taken total (and_left (ltb taken total) (leb 2 room) free), leb-true 2 room (and_right (ltb taken total) (leb 2 room) free))

abbrev prefixed : List ℕ → ℕ → Filled → Filled
prefixed xs n f = record { bytes = xs ++ f.bytes; taken = n + f.taken; next = f.next }

resumed-run : (out xs : List ℕ) (n taken i : ℕ) (f : Filled) → resumed (sets out i xs) (taken + n) (i + length xs) f ≡ resumed out taken i (prefixed xs n f)
resumed-run out xs n taken i f = rw (sets-append out i xs, length-append, add_assoc, add_assoc)

-- ---- a run of plain bytes

module _ (q t : ℕ) where
  one_plain : (x : ℕ) (l : List ℕ) (room h c : ℕ) → kind_of x ≡ Plain → h < t
      → fill_of (suc room) (body q t h c) (x ∷ l) ≡ prefixed (x ∷ []) 1 (fill_of room (body q t (suc h) ((c + x) % 65536)) l)
  unfolding fill_of byte_of body_byte
  one_plain x l room h c k e = rw (lt-ltb h t e, k, add-one)

  run-plain : (xs l : List ℕ) (room h c : ℕ) → c < 65536 → any_in_range start_mark escape_mark xs ≡ false → length xs ≤ t - h
      → fill_of (length xs + room) (body q t h c) (xs ++ l) ≡ prefixed xs (length xs) (fill_of room (body q t (h + length xs) ((c + sum_of xs) % 65536)) l)
  unfolding sum_of
  run-plain [] l room h c b e w = rw (zero-add room, add-zero, add-zero, mod-eq_of_lt b, zero-add)
  run-plain (x ∷ xs) l room h c b e w =
      let k = any-first start_mark escape_mark x xs e in
      let sum : ((c + x) % 65536 + sum_of xs) % 65536 ≡ (c + (x + sum_of xs)) % 65536 = mod-add-mod (c + x) 65536 (sum_of xs) ∙ ap (λ (n : ℕ). n % 65536) (add_assoc c x (sum_of xs)) in
      let next : h + length (x ∷ xs) ≡ suc h + length xs = omega arith in
      let f = fill_of room (body q t (suc h + length xs) ((c + (x + sum_of xs)) % 65536)) l in
      let size : 1 + (length xs + f.taken) ≡ length (x ∷ xs) + f.taken = omega arith in
      rw (suc-add (length xs) room, one_plain x (xs ++ l) (length xs + room) h c (clear-plain x k.0) (omega arith), run-plain xs l room (suc h) ((c + x) % 65536) (omega arith) k.1 (omega arith), next, sum)
      (ap (λ (n : ℕ). record { bytes = x ∷ (xs ++ f.bytes); taken = n; next = f.next }) size)

  -- ---- a mark: F2 and its code
  pair-by : (k : Kind) (x : ℕ) (l : List ℕ) (room h c : ℕ) → kind_of x ≡ k → is_mark_kind k ≡ true → h < t
      → fill_of (suc (suc room)) (body q t h c) (x ∷ l) ≡ prefixed (escaped_by k x) 1 (fill_of room (body q t (h + 1) ((c + x) % 65536)) l)
  unfolding fill_of byte_of body_byte
  pair-by Start x l room h c k m e = rw (lt-ltb h t e, k, zero-add)
  pair-by End x l room h c k m e = rw (lt-ltb h t e, k, zero-add)
  pair-by Escape x l room h c k m e = rw (lt-ltb h t e, k, zero-add)
  pair-by Plain x l room h c k m e = absurd (false≢true m)

-- ---- the fast path, by what it stored

module _ (payload : List ℕ) (s : PartProgress) (out : List ℕ) (taken i : ℕ) (here : taken ≤ length payload) (room : i ≤ length out) (in-payload : in_payload s ≡ true) where
  -- w bytes are written, and n of the payload's are taken
  onward-by : (xs : List ℕ) (w n : ℕ) (s' : PartProgress) (out' : List ℕ) → length xs ≡ w → out' ≡ sets out i xs → n ≤ length payload - taken → w ≤ length out - i
      → fill_of (w + (length out - (i + w))) (body s.sequence s.total s.taken s.sum) (drop taken payload)
      ≡ prefixed xs n (fill_of (length out - (i + w)) s' (drop (taken + n) payload))
      → PartOnward payload s out taken i s' out' (taken + n) (i + w)
  onward-by xs w n s' out' size stored most fits e =
      let rest = length out - (i + w) in
      let left : length out - i ≡ w + rest = omega arith in
      let f = fill_of rest s' (drop (taken + n) payload) in
      let all : fill_of (length out - i) s (drop taken payload) ≡ prefixed xs n f
      = ap (λ (k : ℕ). fill_of k s (drop taken payload)) left ∙ ap (λ (x : PartProgress). fill_of (w + rest) x (drop taken payload)) (body-state s in-payload) ∙ e in
      let here_on : resumed (sets out i xs) (taken + n) (i + w) f ≡ resumed out taken i (prefixed xs n f)
      = ap (λ (k : ℕ). resumed (sets out i xs) (taken + n) (i + k) f) (sym size) ∙ resumed-run out xs n taken i f in
      record {
        from = omega arith;
        within = omega arith;
        offered = omega arith;
        same = rw stored (length-sets out i xs);
        rest = ap (λ (l : List ℕ). resumed l (taken + n) (i + w) f) stored ∙ here_on ∙ ap (λ (g : Filled). resumed out taken i g) (sym all);
      }

  -- plain bytes up to e, by what copying promises
  pub onward-plain : (e : ℕ) → taken ≤ e → e ≤ length payload → e - taken ≤ length out - i → e - taken ≤ missing s → s.sum < 65536
      → {n : ℕ} {out' : List ℕ} → Copied start_mark escape_mark (take (e - taken) (drop taken payload)) i out n out'
      → PartOnward payload s out taken i (body s.sequence s.total (s.taken + n) ((s.sum + sum_of (take n (drop taken payload))) % 65536)) out' (taken + n) (i + n)
  onward-plain e from most fits lacks small {n} {out'} copied =
      let clear = copied.clear in
      let run = take n (drop taken payload) in
      let rest = length out - (i + n) in
      let more = drop (taken + n) payload in
      let before = body s.sequence s.total s.taken s.sum in
      let sum = (s.sum + sum_of run) % 65536 in
      let long = part-long start_mark escape_mark payload taken e n from most clear in
      let size : length run ≡ n = part_length start_mark escape_mark payload taken e n from most clear in
      let split : drop taken payload ≡ run ++ more = sym (take-append-drop n (drop taken payload)) ∙ rw (drop-drop n taken payload) in
      let none = part_none start_mark escape_mark payload taken e n from most clear in
      let whole : fill_of (n + rest) before (run ++ more) ≡ prefixed run n (fill_of rest (body s.sequence s.total (s.taken + n) sum) more)
      = rw size at (run-plain s.sequence s.total run more rest s.taken s.sum small none (omega (arith, long, size))) in
      onward-by run n n (body s.sequence s.total (s.taken + n) sum) out' size (part-stored start_mark escape_mark payload taken e n from most clear copied)
      (omega (arith, long)) (omega (arith, long)) (ap (λ (l : List ℕ). fill_of (n + rest) before l) split ∙ whole)

  -- a mark, with its code
  pub onward-pair : (b : ℕ) → b ≡ get_or payload taken 0 → is_mark b ≡ true → s.taken < s.total → 2 ≤ length out - i
      → PartOnward payload s out taken i (body s.sequence s.total (s.taken + 1) ((s.sum + b) % 65536)) (set (set out i escape_mark) (i + 1) (code_for b)) (taken + 1) (i + 2)
  onward-pair b at mark lacks fits =
      let rest = length out - (i + 2) in
      let before = body s.sequence s.total s.taken s.sum in
      let inside = mark-inside payload taken (rw at at mark) in
      let split : drop taken payload ≡ b ∷ drop (taken + 1) payload = drop-cons payload taken 0 inside ∙ rw (← at, add-one) in
      let two : 2 + rest ≡ suc (suc rest) = omega arith in
      let whole = rw (mark-escaped b mark) at (pair-by s.sequence s.total (kind_of b) b (drop (taken + 1) payload) rest s.taken s.sum refl mark lacks) in
      onward-by (escape_mark ∷ code_for b ∷ []) 2 1 (body s.sequence s.total (s.taken + 1) ((s.sum + b) % 65536)) (set (set out i escape_mark) (i + 1) (code_for b))
      refl (rw add-one) (omega (arith, inside)) (omega arith)
      (ap (λ (k : ℕ). fill_of k before (drop taken payload)) two ∙ ap (λ (l : List ℕ). fill_of (suc (suc rest)) before l) split ∙ whole)
