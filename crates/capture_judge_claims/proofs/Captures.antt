-- The judge is right about captures: the packet that decides, by the place of its length.
use Prim.Native.Nat.{ℕ, suc, ◌+◌}
use mathlib.Core.Path.{◌≡◌, refl, sym, ap, ◌∙◌}
use mathlib.Core.Logic.{inl, inr}
use mathlib.Core.List.{List, [], ◌∷◌}
use mathlib.Core.Bool.{Bool, true, false, cond}
use mathlib.Core.Option.{Option, none, some}
use native.Mathlib.Omega.{arith}
use lib.ListN.{length}
use Rattle.wire.specs.declared.stream.Stream.TheVariants.{Control, Ota, Alexa}
use Rattle.wire.specs.Limit.{limit_fits}
use Rattle.wire.specs.Told.{given}
use Rattle.capture_reader.specs.Capture.{width, ToldAt, packets_of, place_from}
use Rattle.capture_reader.proofs.Walking.{of-packets}
use Rattle.ble_sender.specs.Writer.{room_fits}
use Rattle.ble_sender_claims.proofs.CallsGiveAll.{takes_all}
use Rattle.capture_judge.specs.declared.State.{State}
use Rattle.capture_judge.specs.declared.capture.Judgement.TheVariants.{Going, Stopped}
use Rattle.capture_judge.specs.Step.{idle, all_idle, step_of, after}
use Rattle.capture_judge.specs.Capture.{verdict_from, walked_of, traced_of, Answer, lawful, open·ended, unlawful, answer_in, judged_of}
use Rattle.capture_judge_claims.specs.Lawful.{WritableAll}
use Rattle.capture_judge_claims.specs.Right.{CaptureIsRight}
use Rattle.capture_judge_claims.proofs.Right.{answer_from, answer_of, judge-is-right}

-- ---- indexes and places

abbrev located_from : ℕ → List (List ℕ) → Answer → Answer
located_from at ps lawful = lawful
located_from at ps open·ended = open·ended
located_from at ps (unlawful k) = unlawful (place_from at k ps)

abbrev shifted : Answer → Answer
shifted lawful = lawful
shifted open·ended = open·ended
shifted (unlawful k) = unlawful (suc k)

shift-end : (b : Bool) → cond b lawful open·ended ≡ shifted (cond b lawful open·ended)
shift-end true = refl
shift-end false = refl

located_end : (at : ℕ) (b : Bool) → cond b lawful open·ended ≡ located_from at [] (cond b lawful open·ended)
located_end at true = refl
located_end at false = refl

located-shift : (at : ℕ) (p : List ℕ) (ps : List (List ℕ)) (a : Answer) → located_from (at + width + length p) ps a ≡ located_from at (p ∷ ps) (shifted a)
located-shift at p ps lawful = refl
located-shift at p ps open·ended = refl
located-shift at p ps (unlawful k) = refl

module _ (room limit : ℕ) where
  shift_by : (k : ℕ) (ps : List (List ℕ)) (o : Option State) → ((s : State) → answer_from room limit s (suc (suc k)) ps ≡ shifted (answer_from room limit s (suc k) ps))
      → after o (unlawful (suc k)) (λ (t : State). answer_from room limit t (suc (suc k)) ps) ≡ shifted (after o (unlawful k) (λ (t : State). answer_from room limit t (suc k) ps))
  shift_by k ps none later = refl
  shift_by k ps (some t) later = later t

  answer-shift : (ps : List (List ℕ)) (k : ℕ) (s : State) → answer_from room limit s (suc k) ps ≡ shifted (answer_from room limit s k ps)
  unfolding answer_from
  answer-shift [] k s = shift-end (all_idle s)
  answer-shift (p ∷ ps) k s = shift_by k ps (step_of room limit s p) (answer-shift ps (suc k))

  -- after the packet that decides none changes anything
  stopped-stays : (ps : List (List ℕ)) (at place : ℕ) (s : State) → verdict_from room limit at (Stopped place s) ps ≡ Stopped place s
  unfolding verdict_from
  stopped-stays [] at place s = refl
  stopped-stays (p ∷ ps) at place s = stopped-stays ps (at + width + length p) place s

  verdict-by : (at : ℕ) (s : State) (p : List ℕ) (ps : List (List ℕ)) (o : Option State)
      → ((t : State) → answer_in (verdict_from room limit (at + width + length p) (Going t) ps) ≡ located_from (at + width + length p) ps (answer_from room limit t 0 ps))
      → answer_in (verdict_from room limit (at + width + length p) (after o (Stopped at s) Going) ps)
      ≡ located_from at (p ∷ ps) (after o (unlawful 0) (λ (t : State). answer_from room limit t 1 ps))
  verdict-by at s p ps none later = ap answer_in (stopped-stays ps (at + width + length p) at s)
  verdict-by at s p ps (some t) later =
      later t ∙ located-shift at p ps (answer_from room limit t 0 ps) ∙ ap (located_from at (p ∷ ps)) (sym (answer-shift ps 0 t))

  verdict-is : (ps : List (List ℕ)) (at : ℕ) (s : State) → answer_in (verdict_from room limit at (Going s) ps) ≡ located_from at ps (answer_from room limit s 0 ps)
  unfolding verdict_from answer_from
  verdict-is [] at s = located_end at (all_idle s)
  verdict-is (p ∷ ps) at s = verdict-by at s p ps (step_of room limit s p) (verdict-is ps (at + width + length p))

-- ---- the claim

module _ (room limit : ℕ) (bytes : List ℕ) (ps : List (List ℕ)) (fits : room_fits room ≡ true) (l : limit_fits limit ≡ true) (e : packets_of bytes ≡ given ps) where
  answer-is : judged_of room limit bytes ≡ given (located_from 1 ps (answer_of room limit ps))
  unfolding judged_of traced_of walked_of
  answer-is = rw (fits, l, e) (ap given (verdict-is room limit ps 1 idle))

  lawful-only : (a : Answer) → ◌≡◌ {A = ToldAt Answer} (given (located_from 1 ps a)) (given lawful) → a ≡ lawful
  lawful-only lawful q = refl
  lawful-only open·ended q = cc
  lawful-only (unlawful k) q = cc

  open-only : (a : Answer) → ◌≡◌ {A = ToldAt Answer} (given (located_from 1 ps a)) (given open·ended) → a ≡ open·ended
  open-only lawful q = cc
  open-only open·ended q = refl
  open-only (unlawful k) q = cc

  record Unlawful (a : Answer) (at : ℕ) : Type 0 where
    index : ℕ
    answer : a ≡ unlawful index
    place_is : at ≡ place_from 1 index ps

  unlawful-only : (a : Answer) (at : ℕ) → ◌≡◌ {A = ToldAt Answer} (given (located_from 1 ps a)) (given (unlawful at)) → Unlawful a at
  unlawful-only lawful at q = let z : ◌≡◌ {A = ℕ} 0 1 = cc in absurd (omega arith)
  unlawful-only open·ended at q = let z : ◌≡◌ {A = ℕ} 0 1 = cc in absurd (omega arith)
  unlawful-only (unlawful k) at q = record { index = k; answer = refl; place_is = cc }

pub capture-is-right : CaptureIsRight
capture-is-right room limit bytes ps fits l b e =
    let right = judge-is-right room limit ps (record { room_fits = fits; limit-fits = l }) (rw e at (of-packets bytes b)) in
    let is = answer-is room limit bytes ps fits l e in (
      (
        (λ q. right.0.0 (lawful-only room limit bytes ps fits l e (answer_of room limit ps) (sym is ∙ q))),
        (λ h. is ∙ rw (right.0.1 h)),
      ),
      (
        (λ q. right.1.0 (open-only room limit bytes ps fits l e (answer_of room limit ps) (sym is ∙ q))),
        (λ h. is ∙ rw (right.1.1 h)),
      ),
      (λ at. (
        (λ q.
            let u = unlawful-only room limit bytes ps fits l e (answer_of room limit ps) at (sym is ∙ q) in
            let v = (right.2 u.index).0 u.answer in
            record { index = u.index; viable-before = v.0; not_after = v.1; place_is = u.place_is }),
        (λ h. is ∙ rw ((right.2 h.index).1 (h.viable-before, h.not_after), h.place_is)),
      )),
    )

-- ---- a transaction asks for no more than its ranges

pub writable-all : WritableAll
writable-all room limit Control id sequence ack payload out low high some-limit most i q l b o =
    record { takes = takes_all limit _ payload out some-limit most low high (inl refl) i q l o; room-is = refl; stream-is = refl; bytes = b }
writable-all room limit Ota id sequence ack payload out low high some-limit most i q l b o =
    record { takes = takes_all limit _ payload out some-limit most low high (inr (inl refl)) i q l o; room-is = refl; stream-is = refl; bytes = b }
writable-all room limit Alexa id sequence ack payload out low high some-limit most i q l b o =
    record { takes = takes_all limit _ payload out some-limit most low high (inr (inr refl)) i q l o; room-is = refl; stream-is = refl; bytes = b }
