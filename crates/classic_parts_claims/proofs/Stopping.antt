-- The claim of specs/Stopping.antt.
use Prim.Native.Nat.{ℕ, suc, ◌+◌, ◌/◌, ◌<◌, ◌≤◌}
use mathlib.Core.Path.{◌≡◌, refl, sym, ap, ◌∙◌}
use mathlib.Core.Bool.{Bool, true, false, cond, not, ◌&&◌, false≢true}
use mathlib.Core.List.{List, [], ◌∷◌}
use native.Mathlib.Omega.{arith}
use lib.ListN.{length, drop, length-drop}
use lib.Dec.{ltb}
use borrow.Author.Tests.{ltb-true}
use Rattle.classic_frame.specs.declared.mark.Kind.{Kind}
use Rattle.classic_frame.specs.declared.mark.Kind.TheVariants.{Start, End, Escape, Plain}
use Rattle.classic_frame.specs.Mark.{is_mark_kind}
use Rattle.classic_parts.specs.declared.state.Stage.{Stage}
use Rattle.classic_parts.specs.declared.state.Stage.TheVariants as stage
use Rattle.classic_parts.specs.declared.state.PartProgress.{PartProgress}
use Rattle.classic_parts.specs.State.{is_payload, is_done, in_payload, ended}
use Rattle.classic_parts.specs.Byte.{Byte, nothing, byte, payload_byte, body_byte, closing, stage_byte, pending_byte, byte_of}
use Rattle.classic_parts.specs.Fill.{Filled, stopped, and_on, fill_of}
use Rattle.classic_parts.specs.declared.writer.PartCount.{PartCount}
use Rattle.classic_parts.specs.Writer.{count}
use Rattle.classic_parts.proofs.Filling.{byte-takes}
use Rattle.classic_parts_claims.specs.Stopping.{Stops, full, over, wants, PartsStop}
use Rattle.classic_parts_claims.proofs.Filled.{call-filled}

-- ---- why there is no byte

abbrev is_nothing : Byte → Bool
is_nothing nothing = true
is_nothing (byte b next k) = false

data Why (s : PartProgress) (l : List ℕ) : Type 0 where
  done : ended s ≡ true → Why s l
  starved : l ≡ [] → in_payload s ≡ true → s.taken < s.total → Why s l

module _ (s : PartProgress) where
  body-why : (l : List ℕ) (b : Bool) → ltb s.taken s.total ≡ b → in_payload s ≡ true
      → is_nothing (cond b (payload_byte s l) (closing s (s.sum / 256) stage.Low)) ≡ true → Why s l
  body-why [] true t i e = starved refl i (ltb-true s.taken s.total t)
  body-why (x ∷ xs) true t i e = absurd (false≢true e)
  body-why l false t i e = absurd (false≢true e)

  stage-why : (at : Stage) (l : List ℕ) → s.stage ≡ at → s.pending ≡ Plain → is_nothing (stage_byte at s l) ≡ true → Why s l
  unfolding body_byte
  stage-why stage.Start l a k e = absurd (false≢true e)
  stage-why stage.PacketId l a k e = absurd (false≢true e)
  stage-why stage.ErrorId l a k e = absurd (false≢true e)
  stage-why stage.Sequence l a k e = absurd (false≢true e)
  stage-why stage.Payload l a k e = body-why l (ltb s.taken s.total) refl (ap (λ (z : Stage). is_payload z && not (is_mark_kind s.pending)) a ∙ ap (λ (z : Kind). not (is_mark_kind z)) k) e
  stage-why stage.Low l a k e = absurd (false≢true e)
  stage-why stage.End l a k e = absurd (false≢true e)
  stage-why stage.Done l a k e = done (ap (λ (z : Stage). is_done z && not (is_mark_kind s.pending)) a ∙ ap (λ (z : Kind). not (is_mark_kind z)) k)

  kind-why : (k : Kind) (l : List ℕ) → s.pending ≡ k → is_nothing (pending_byte k s l) ≡ true → Why s l
  kind-why Start l k e = absurd (false≢true e)
  kind-why End l k e = absurd (false≢true e)
  kind-why Escape l k e = absurd (false≢true e)
  kind-why Plain l k e = stage-why s.stage l refl k e

  why : (l : List ℕ) → nothing ≡ byte_of s l → Why s l
  unfolding byte_of
  why l e = kind-why s.pending l refl (sym (ap is_nothing e))

-- ---- why an output is not filled further

abbrev counted : Filled → PartCount
counted f = count f.taken (length f.bytes) (ended f.next)

later-stops : {out l : List ℕ} (f : Filled) (v k : ℕ) → k ≤ length l → Stops (drop k l) out (counted f) f.next
    → Stops l (v ∷ out) (count (k + f.taken) (suc (length f.bytes)) (ended f.next)) f.next
later-stops f v k h (full e) = full (ap suc e)
later-stops f v k h (over e) = over e
later-stops {out} {l} f v k h (wants e i q) = wants (omega (arith, e, length-drop k l)) i q

stops : (out : List ℕ) (s : PartProgress) (l : List ℕ) → (let f = fill_of (length out) s l in Stops l out (counted f) f.next)
unfolding fill_of
stops [] s l = full refl
stops (v ∷ out) s l = go (byte_of s l) refl (λ next k. stops out next (drop k l))
  where
    stop : Why s l → Stops l (v ∷ out) (counted (stopped s)) s
    stop (done e) = over e
    stop (starved e i q) = wants (rw e) i q

    go : (x : Byte) → x ≡ byte_of s l
        → ((next : PartProgress) (k : ℕ) → (let f = fill_of (length out) next (drop k l) in Stops (drop k l) out (counted f) f.next))
        → (let f = and_on s x (λ next k. fill_of (length out) next (drop k l)) in Stops l (v ∷ out) (counted f) f.next)
    go nothing e later = stop (why s l e)
    go (byte b next k) e later = later-stops (fill_of (length out) next (drop k l)) v k (byte-takes s l e) (later next k)

-- ---- the claim

pub parts-stop : PartsStop
parts-stop limit s offered out k =
    let f = fill_of (length out) s offered in
    let w = call-filled limit s offered out k.range k.unmarked k.fits k.missing (omega (arith, k.lends)) in
    record { count = counted f; told = rw w; honest = rw w; why = rw w (stops out s offered) }
