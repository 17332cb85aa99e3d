-- The claim of specs/Joined.antt.
use Prim.Native.Nat.{ℕ, zero, suc, ◌+◌, ◌-◌, ◌≤◌}
use mathlib.Core.Path.{◌≡◌, refl, sym, ap, ◌∙◌}
use mathlib.Core.Bool.{Bool, true, false, cond, ◌&&◌}
use mathlib.Core.List.{List, [], ◌∷◌, ◌++◌, append_assoc, append-nil}
use native.Mathlib.Nat.{zero-add, add-zero, add_assoc}
use native.Mathlib.Omega.{arith}
use lib.ListN.{length, take, drop, length-append, length-take}
use lib.Seq.{take-append_seam}
use lib.Dec.{leb}
use borrow.Author.Tests.{le-ltb, leb-true}
use Rattle.wire.specs.Limit.{limit_fits}
use Rattle.wire.proofs.Stores.{first-bytes}
use Rattle.wire.proofs.Tests.{and_left, and_right}
use Rattle.classic_frame.specs.Mark.{is_mark}
use Rattle.classic_frame.specs.Frame.{frame_of}
use Rattle.classic_writer.specs.Sending.{FrameToSend, Sendable}
use Rattle.classic_writer.proofs.Sending.{sent-frame}
use Rattle.classic_parts.specs.declared.state.PartProgress.{PartProgress}
use Rattle.classic_parts.specs.State.{start_of, ended}
use Rattle.classic_parts.specs.Byte.{Byte}
use Rattle.classic_parts.specs.Fill.{and_on, fill_of}
use Rattle.classic_parts.specs.Writer.{part_of}
use Rattle.classic_parts_claims.specs.Run.{PartCall, part, beyond, offered_by, lent_by, taken_by, written_by, PartRun, run_of, is_fruitful, fruitful}
use Rattle.classic_parts_claims.specs.Joined.{Joins, PartsJoin}
use Rattle.classic_parts_claims.proofs.Left.{left_of, firsts_in, firsts-none, PartFits, Emits, ends, starves, own, takes, view, start_left, start_fits, start-firsts, left_ended, ended-left}
use Rattle.classic_parts_claims.proofs.Filled.{fills, call-goes, call-filled}

-- ---- calls one after another

pub record Went (s : PartProgress) (p : List ℕ) (run : PartRun) : Type 0 where
  pub left : List ℕ
  pub joins : left_of s p ≡ run.bytes ++ left_of run.next left
  pub firsts : (m : ℕ) → firsts_in (length run.bytes + m) s p ≡ run.taken + firsts_in m run.next left

run-went : (limit : ℕ) (cs : List PartCall) (s : PartProgress) (p : List ℕ) → PartFits s p → Went s p (run_of limit cs s p)
unfolding run_of
run-went limit [] s p f = record { left = p; joins = refl; firsts = λ m. rw (zero-add, zero-add) }
run-went limit (c ∷ cs) s p f =
    let w = part_of limit s (offered_by c p) (lent_by c) in
    let bytes = written_by w.told w.out in
    let k = taken_by w.told in
    let g = call-goes limit s p c f in
    let r = run-went limit cs w.next (drop k p) g.fits in
    let later = run_of limit cs w.next (drop k p) in
    record {
      left = r.left;
      joins = g.joins ∙ ap (λ (l : List ℕ). bytes ++ l) r.joins ∙ sym (append_assoc bytes _ _);
      firsts =
          λ m. rw (length-append bytes later.bytes, add_assoc (length bytes) (length later.bytes) m, add_assoc k later.taken (firsts_in m later.next r.left))
          (g.firsts (length later.bytes + m) ∙ ap (λ (n : ℕ). k + n) (r.firsts m));
    }

-- ---- fruitful calls come to the end

turn-nearer : (room n : ℕ) (s : PartProgress) (p : List ℕ) {x : Byte} → 1 ≤ n → Emits s p n x
    → (let f = and_on s x (λ next k. fill_of room next (drop k (take n p))) in 1 ≤ length f.bytes + (1 - length (left_of s p)))
turn-nearer room n s p h (ends e) = rw e (omega arith)
turn-nearer room n s p h (starves) = absurd (omega arith)
turn-nearer room n s p h (own b q next e fits same count) = omega arith
turn-nearer room (suc n) s p h (takes b x xs next e fits same count) = omega arith

fill-nearer : (room n : ℕ) (s : PartProgress) (p : List ℕ) → PartFits s p → 1 ≤ room → 1 ≤ n → 1 ≤ length (fill_of room s (take n p)).bytes + (1 - length (left_of s p))
unfolding fill_of
fill-nearer zero n s p f r h = absurd (omega arith)
fill-nearer (suc room) n s p f r h = turn-nearer room n s p h (view s p n f)

-- what a call writes at least, unless nothing is left
abbrev least : PartCall → ℕ
least c = cond (is_fruitful c) 1 0

call-nearer : (limit : ℕ) (s : PartProgress) (p : List ℕ) (c : PartCall) → PartFits s p → limit_fits limit ≡ true → is_mark s.sequence ≡ false → s.total ≤ limit
    → (let w = part_of limit s (offered_by c p) (lent_by c) in least c ≤ length (written_by w.told w.out) + (1 - length (left_of s p)))
call-nearer limit s p (beyond b bs out) f range m t = omega arith
call-nearer limit s p (part n out) f range m t = go (leb 1 n && leb 1 (length out)) refl
  where
    go : (b : Bool) → (leb 1 n && leb 1 (length out)) ≡ b
        → (let w = part_of limit s (take n p) out in cond b 1 0 ≤ length (written_by w.told w.out) + (1 - length (left_of s p)))
    go false e = omega arith
    go true e =
        let offers = leb-true 1 n (and_left (leb 1 n) (leb 1 (length out)) e) in
        let lends = leb-true 1 (length out) (and_right (leb 1 n) (leb 1 (length out)) e) in
        let most : s.taken + length (take n p) ≤ s.total = rw length-take (omega (arith, f.told)) in
        rw (call-filled limit s (take n p) out range m t most lends, first-bytes out (fill_of (length out) s (take n p)).bytes (fills (length out) n s p f).1)
        (fill-nearer (length out) n s p f lends offers)

ends-in : (limit : ℕ) → limit_fits limit ≡ true → (cs : List PartCall) (s : PartProgress) (p : List ℕ) → PartFits s p → is_mark s.sequence ≡ false → s.total ≤ limit
    → length (left_of s p) ≤ fruitful cs → ended (run_of limit cs s p).next ≡ true
unfolding run_of fruitful
ends-in limit range [] s p f m t h = left_ended s p (omega arith)
ends-in limit range (c ∷ cs) s p f m t h =
    let w = part_of limit s (offered_by c p) (lent_by c) in
    let g = call-goes limit s p c f in
    let bytes = written_by w.told w.out in
    let rest = left_of w.next (drop (taken_by w.told) p) in
    let size : length (left_of s p) ≡ length bytes + length rest = ap length g.joins ∙ length-append bytes rest in
    let near = call-nearer limit s p c f range m t in
    ends-in limit range cs w.next (drop (taken_by w.told) p) g.fits (ap is_mark g.same.0 ∙ m) (rw g.same.1 t) (omega (arith, size, near, h))

-- ---- the claim

joins-frame : (limit : ℕ) (m : FrameToSend) (calls : List PartCall) → Sendable limit m
    → Joins (frame_of m.sequence m.payload) m calls (run_of limit calls (start_of m.sequence (length m.payload)) m.payload)
joins-frame limit m calls k =
    let p = m.payload in
    let q = m.sequence in
    let s = start_of q (length p) in
    let run = run_of limit calls s p in
    let r = run-went limit calls s p (start_fits q p) in
    let rest = left_of run.next r.left in
    let all : frame_of q p ≡ run.bytes ++ rest = sym (start_left q (length p) p) ∙ r.joins in
    record {
      begins = rw (all, take-append_seam);
      whole = λ e. sym (all ∙ rw (ended-left run.next r.left e, append-nil));
      over = λ e. left_ended run.next r.left (omega (arith, ap length all, ap length e, length-append run.bytes rest));
      taken =
          sym (sym (start-firsts (length run.bytes) q (length p) p) ∙ ap (λ (n : ℕ). firsts_in n s p) (sym (add-zero (length run.bytes))) ∙ r.firsts 0
          ∙ ap (λ (n : ℕ). run.taken + n) (firsts-none run.next r.left) ∙ add-zero run.taken);
      ends = λ h. ends-in limit k.range calls s p (start_fits q p) k.unmarked (omega (arith, k.fits)) (rw (start_left q (length p) p) h);
    }

pub parts_join : PartsJoin
parts_join limit m calls k =
    (rw (k.range, k.unmarked, le-ltb limit (length m.payload) (omega (arith, k.fits))), sent-frame limit m k, rw (sent-frame limit m k) (joins-frame limit m calls k))
