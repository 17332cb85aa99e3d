-- Laws of the loop that fills an output, and of lawful states.
use Prim.Native.Nat.{ℕ, zero, suc, ◌+◌, ◌-◌, ◌/◌, ◌<◌, ◌≤◌, zero-le}
use mathlib.Core.Path.{◌≡◌, refl, ap, ◌∙◌}
use mathlib.Core.List.{List, [], ◌∷◌}
use mathlib.Core.Bool.{Bool, true, false, cond}
use native.Mathlib.Nat.{add-zero, zero-add, add_assoc, add-suc, suc-add, sub-zero}
use native.Mathlib.Numerals.{add-one}
use native.Mathlib.Omega.{arith}
use lib.ListN.{length, take, drop, set, length-set, length-drop}
use lib.Seq.{drop-drop}
use lib.Dec.{ltb}
use Rattle.wire.specs.Told.{given}
use Rattle.wire.proofs.Parts.{rest-lent}
use Rattle.classic_frame.specs.declared.mark.Kind.{Kind}
use Rattle.classic_frame.specs.declared.mark.Kind.TheVariants.{Start, End, Escape, Plain}
use Rattle.classic_parts.specs.declared.state.Stage.{Stage}
use Rattle.classic_parts.specs.declared.state.Stage.TheVariants as stage
use Rattle.classic_parts.specs.declared.state.PartProgress.{PartProgress}
use Rattle.classic_parts.specs.State.{ended}
use Rattle.classic_parts.specs.Byte.{Byte, nothing, byte, closing, payload_byte, body_byte, stage_byte, pending_byte, byte_of}
use Rattle.classic_parts.specs.Fill.{stopped, and_on, fill_of}
use Rattle.classic_parts.specs.Writer.{filled, wrote, count}
use Rattle.classic_parts.specs.FastPath.{resumed, PartOnward}

-- a stage, and a pending code, that are known
pub payload-stage : (s : PartProgress) (l : List ℕ) → s.stage ≡ stage.Payload → stage_byte s.stage s l ≡ body_byte s l
payload-stage s l e = ap (λ (at : Stage). stage_byte at s l) e

pub plain-pending : (s : PartProgress) (l : List ℕ) → s.pending ≡ Plain → byte_of s l ≡ stage_byte s.stage s l
unfolding byte_of
plain-pending s l e = ap (λ (k : Kind). pending_byte k s l) e

-- ---- a byte takes no more payload than is offered

abbrev takes : Byte → ℕ
takes nothing = 0
takes (byte b next k) = k

offered-takes : (s : PartProgress) (l : List ℕ) → takes (payload_byte s l) ≤ length l
offered-takes s [] = zero-le
offered-takes s (b ∷ bs) = omega arith

body-takes : (s : PartProgress) (l : List ℕ) → takes (body_byte s l) ≤ length l
unfolding body_byte
body-takes s l = go (ltb s.taken s.total)
  where
    go : (t : Bool) → takes (cond t (payload_byte s l) (closing s (s.sum / 256) stage.Low)) ≤ length l
    go true = offered-takes s l
    go false = zero-le

stage-takes : (at : Stage) (s : PartProgress) (l : List ℕ) → takes (stage_byte at s l) ≤ length l
stage-takes stage.Start s l = zero-le
stage-takes stage.PacketId s l = zero-le
stage-takes stage.ErrorId s l = zero-le
stage-takes stage.Sequence s l = zero-le
stage-takes stage.Payload s l = body-takes s l
stage-takes stage.Low s l = zero-le
stage-takes stage.End s l = zero-le
stage-takes stage.Done s l = zero-le

pending-takes : (k : Kind) (s : PartProgress) (l : List ℕ) → takes (pending_byte k s l) ≤ length l
pending-takes Start s l = zero-le
pending-takes End s l = zero-le
pending-takes Escape s l = zero-le
pending-takes Plain s l = stage-takes s.stage s l

pub byte-takes : (s : PartProgress) (l : List ℕ) {b : ℕ} {next : PartProgress} {k : ℕ} → byte b next k ≡ byte_of s l → k ≤ length l
unfolding byte_of
byte-takes s l e = rw (← e) at (pending-takes s.pending s l)

-- all that is left of the payload is offered
pub offered-rest : (s : PartProgress) (payload : List ℕ) (taken : ℕ) → byte_of s (take (length payload - taken) (drop taken payload)) ≡ byte_of s (drop taken payload)
offered-rest s payload taken = ap (λ (l : List ℕ). byte_of s l) (rest-lent payload taken)

-- ---- one turn

fill_none : (s : PartProgress) (l : List ℕ) → fill_of 0 s l ≡ stopped s
unfolding fill_of
fill_none s l = refl

fill-byte : (n : ℕ) (s : PartProgress) (l : List ℕ) {x : Byte} → x ≡ byte_of s l → fill_of (suc n) s l ≡ and_on s x (λ s' j. fill_of n s' (drop j l))
unfolding fill_of
fill-byte n s l e = rw e

fill-nothing : (n : ℕ) (s : PartProgress) (l : List ℕ) → nothing ≡ byte_of s l → fill_of n s l ≡ stopped s
unfolding fill_of
fill-nothing zero s l e = refl
fill-nothing (suc n) s l e = rw (← e)

-- ---- the loop: what is left to be filled gives what all gives

pub record Filling (payload out₀ : List ℕ) (s₀ : PartProgress) (out : List ℕ) (s : PartProgress) (taken i : ℕ) : Type 0 where
  pub within : i ≤ length out₀
  pub same : length out ≡ length out₀
  pub offered : taken ≤ length payload
  pub rest : resumed out taken i (fill_of (length out₀ - i) s (drop taken payload)) ≡ filled out₀ (fill_of (length out₀) s₀ payload)

pub filling-begins : (payload out : List ℕ) (s : PartProgress) → Filling payload out s out s 0 0
filling-begins payload out s = record { within = zero-le; same = refl; offered = zero-le; rest = simp (sub-zero, zero-add) }

module _ {payload out₀ : List ℕ} {s₀ : PartProgress} {out : List ℕ} {s : PartProgress} {taken i : ℕ} (inv : Filling payload out₀ s₀ out s taken i) where
  -- the fast path keeps what holds at the test of the loop
  pub filling-on : {s' : PartProgress} {out' : List ℕ} {taken' j : ℕ} → PartOnward payload s out taken i s' out' taken' j → Filling payload out₀ s₀ out' s' taken' j
  filling-on on =
      record {
        within = omega (arith, on.within, inv.same);
        same = on.same ∙ inv.same;
        offered = on.offered;
        rest = (rw inv.same at on.rest) ∙ inv.rest;
      }

  -- the byte takes no more than is left of the payload
  pub filling-taken : {b : ℕ} {next : PartProgress} {k : ℕ} → byte b next k ≡ byte_of s (drop taken payload) → taken + k ≤ length payload
  filling-taken e = omega (arith, byte-takes s (drop taken payload) e, length-drop taken payload, inv.offered)

  -- a byte is written
  pub filling-byte : {b : ℕ} {next : PartProgress} {k : ℕ} → byte b next k ≡ byte_of s (drop taken payload) → i < length out₀
      → Filling payload out₀ s₀ (set out i b) next (taken + k) (i + 1)
  filling-byte {b} {next} {k} e h =
      record {
        within = omega arith;
        same = length-set out i b ∙ inv.same;
        offered = filling-taken e;
        rest = rw (add-one, add_assoc, suc-add, ← add-suc) (rw (room, filled-byte (length out₀ - suc i), drop-drop k taken payload) at inv.rest);
      }
    where
      room : length out₀ - i ≡ suc (length out₀ - suc i)
      room = omega arith

      filled-byte : (n : ℕ) → fill_of (suc n) s (drop taken payload) ≡ and_on s (byte b next k) (λ s' j. fill_of n s' (drop j (drop taken payload)))
      filled-byte n = fill-byte n s (drop taken payload) e

  stopped-here : fill_of (length out₀ - i) s (drop taken payload) ≡ stopped s → wrote (given (count taken i (ended s))) s out ≡ filled out₀ (fill_of (length out₀) s₀ payload)
  stopped-here e = simp add-zero at (rw e at inv.rest)

  -- nothing is to be written
  pub filling-stops : nothing ≡ byte_of s (drop taken payload) → wrote (given (count taken i (ended s))) s out ≡ filled out₀ (fill_of (length out₀) s₀ payload)
  filling-stops e = stopped-here (fill-nothing (length out₀ - i) s (drop taken payload) e)

  -- the output is full
  pub filling-full : length out₀ ≤ i → wrote (given (count taken i (ended s))) s out ≡ filled out₀ (fill_of (length out₀) s₀ payload)
  filling-full h = stopped-here (rw none (fill_none s (drop taken payload)))
    where
      none : length out₀ - i ≡ 0
      none = omega arith
