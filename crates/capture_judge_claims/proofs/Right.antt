-- The judge is right about every list of packets, by the index of the packet that decides.
use Prim.Native.Nat.{ℕ, zero, suc, ◌+◌}
use native.Mathlib.Omega.{arith}
use native.Mathlib.Nat.{add-zero}
use mathlib.Core.Path.{◌≡◌, refl, sym, ap, ◌∙◌}
use mathlib.Core.Logic.{◌↔◌}
use mathlib.Core.List.{List, [], ◌∷◌, ◌++◌}
use mathlib.Core.Bool.{Bool, true, false, cond, ◌&&◌, false≢true}
use mathlib.Core.Option.{Option, none, some}
use lib.ListN.{take}
use Rattle.capture_stream.specs.declared.SenderSlot.{SenderSlot}
use Rattle.capture_stream.specs.declared.SenderSlot.TheVariants.{Idle, Open}
use Rattle.capture_judge.specs.declared.State.{State}
use Rattle.capture_reader.specs.Capture.{Packets}
use Rattle.capture_stream.specs.Slot.{is_idle}
use Rattle.capture_judge.specs.Step.{idle, all_idle, step_of, after}
use Rattle.capture_judge.specs.Capture.{Answer, lawful, open·ended, unlawful}
use Rattle.capture_judge_claims.specs.Lawful.{LawfulPackets, Viable}
use Rattle.capture_judge_claims.proofs.Rest.{InRange, never-some}
use Rattle.capture_judge_claims.proofs.Runs.{run_of, lawful-runs, runs-lawful}
use Rattle.capture_judge_claims.proofs.Continuing.{run-append, taken-ends, packets-append}

-- ---- the answer, with the index of a packet in the place of its place

unfoldable pub answer_from : ℕ → ℕ → State → ℕ → List (List ℕ) → Answer
answer_from room limit s k [] = cond (all_idle s) lawful open·ended
answer_from room limit s k (p ∷ ps) = after (step_of room limit s p) (unlawful k) (λ (t : State). answer_from room limit t (suc k) ps)

abbrev pub answer_of : ℕ → ℕ → List (List ℕ) → Answer
answer_of room limit ps = answer_from room limit idle 0 ps

-- it is what the run says

-- nothing is open
idle-by : (c o a : SenderSlot) → (is_idle c && (is_idle o && is_idle a)) ≡ true → ◌≡◌ {A = State} (record { control = c; ota = o; alexa = a }) idle
idle-by Idle Idle Idle e = refl
idle-by Idle Idle (Open id left sequence) e = absurd (false≢true e)
idle-by Idle (Open id left sequence) a e = absurd (false≢true e)
idle-by (Open id left sequence) o a e = absurd (false≢true e)

pub idle-when : (t : State) → all_idle t ≡ true → t ≡ idle
idle-when t e = idle-by t.control t.ota t.alexa e

abbrev end_answer : State → Answer
end_answer t = cond (all_idle t) lawful open·ended

module _ (room limit : ℕ) where
  end_by : (p : List ℕ) (ps : List (List ℕ)) (t : State) (k : ℕ) (o : Option State) → ((st : State) → run_of room limit st ps ≡ some t → answer_from room limit st (suc k) ps ≡ end_answer t)
      → after o none (λ (u : State). run_of room limit u ps) ≡ some t → after o (unlawful k) (λ (u : State). answer_from room limit u (suc k) ps) ≡ end_answer t
  end_by p ps t k none later e = never-some t e
  end_by p ps t k (some u) later e = later u e

  end_is : (ps : List (List ℕ)) (t : State) (k : ℕ) (st : State) → run_of room limit st ps ≡ some t → answer_from room limit st k ps ≡ end_answer t
  unfolding run_of answer_from
  end_is [] t k st e = let z : st ≡ t = cc in rw z
  end_is (p ∷ ps) t k st e = end_by p ps t k (step_of room limit st p) (end_is ps t (suc k)) e

  -- a run that stops: the place of the packet that it stops at
  record Stops (ps : List (List ℕ)) (k : ℕ) (st : State) : Type 0 where
    index : ℕ
    last-state : State
    answer-is : answer_from room limit st k ps ≡ unlawful (k + index)
    taken-before : run_of room limit st (take index ps) ≡ some last-state
    stopped-at : run_of room limit st (take (suc index) ps) ≡ none

  stops-by : (p : List ℕ) (ps : List (List ℕ)) (k : ℕ) (st : State) (o : Option State) → step_of room limit st p ≡ o
      → ((u : State) → run_of room limit u ps ≡ none → Stops ps (suc k) u) → after o none (λ (u : State). run_of room limit u ps) ≡ none → Stops (p ∷ ps) k st
  unfolding run_of answer_from
  stops-by p ps k st none s later e =
      record { index = 0; last-state = st; answer-is = rw (s, add-zero); taken-before = refl; stopped-at = rw s }
  stops-by p ps k st (some u) s later e =
      let h = later u e in
      record {
        index = suc h.index;
        last-state = h.last-state;
        answer-is = rw s (h.answer-is ∙ ap unlawful (omega arith));
        taken-before = rw s h.taken-before;
        stopped-at = rw s h.stopped-at;
      }

  stops : (ps : List (List ℕ)) (k : ℕ) (st : State) → run_of room limit st ps ≡ none → Stops ps k st
  unfolding run_of
  stops [] k st e = never-some st (sym e)
  stops (p ∷ ps) k st e = stops-by p ps k st (step_of room limit st p) refl (stops ps (suc k)) e

  -- .. and there is only one
  stop-by : (p : List ℕ) (ps : List (List ℕ)) (index k : ℕ) (t : State) (o : Option State)
      → ((st : State) → run_of room limit st (take index ps) ≡ some t → run_of room limit st (take (suc index) ps) ≡ none → answer_from room limit st (suc k) ps ≡ unlawful (suc k + index))
      → after o none (λ (u : State). run_of room limit u (take index ps)) ≡ some t → after o none (λ (u : State). run_of room limit u (take (suc index) ps)) ≡ none
      → after o (unlawful k) (λ (u : State). answer_from room limit u (suc k) ps) ≡ unlawful (k + suc index)
  stop-by p ps index k t none later e f = never-some t e
  stop-by p ps index k t (some u) later e f = later u e f ∙ ap unlawful (omega arith)

  stop-first : (p : List ℕ) (ps : List (List ℕ)) (k : ℕ) (st : State) (o : Option State) → after o none (λ (u : State). run_of room limit u []) ≡ none
      → after o (unlawful k) (λ (u : State). answer_from room limit u (suc k) ps) ≡ unlawful (k + 0)
  unfolding run_of
  stop-first p ps k st none f = rw add-zero
  stop-first p ps k st (some u) f = never-some u (sym f)

  stop_is : (ps : List (List ℕ)) (index k : ℕ) (t st : State) → run_of room limit st (take index ps) ≡ some t → run_of room limit st (take (suc index) ps) ≡ none
      → answer_from room limit st k ps ≡ unlawful (k + index)
  unfolding run_of answer_from
  stop_is [] zero k t st e f = never-some st (sym f)
  stop_is [] (suc index) k t st e f = never-some st (sym f)
  stop_is (p ∷ ps) zero k t st e f = stop-first p ps k st (step_of room limit st p) f
  stop_is (p ∷ ps) (suc index) k t st e f = stop-by p ps index k t (step_of room limit st p) (stop_is ps index (suc k) t) e f

-- ---- by what could still be lawful

module _ (room limit : ℕ) (fits : InRange room limit) where
  -- viable: the run goes on
  pub record Goes (ps : List (List ℕ)) : Type 0 where
    pub state : State
    pub goes : run_of room limit idle ps ≡ some state

  goes_by : (ps qs : List (List ℕ)) (o : Option State) → run_of room limit idle ps ≡ o → after o none (λ (t : State). run_of room limit t qs) ≡ some idle → Goes ps
  goes_by ps qs none e f = never-some idle f
  goes_by ps qs (some t) e f = record { state = t; goes = e }

  pub viable-goes : (ps : List (List ℕ)) → Viable room limit ps → Goes ps
  viable-goes ps v =
      goes_by ps v.more (run_of room limit idle ps) refl
      (sym (run-append room limit fits ps v.more idle) ∙ lawful-runs room limit fits (ps ++ v.more) v.lawful_then)

  pub goes-viable : (ps : List (List ℕ)) → Packets ps → (t : State) → run_of room limit idle ps ≡ some t → Viable room limit ps
  goes-viable ps bytes t e =
      let h = taken-ends room limit fits ps t e in
      record {
        more = h.more;
        more_bytes = h.more_bytes;
        lawful_then =
            runs-lawful room limit fits (ps ++ h.more) (packets-append room limit fits ps h.more bytes h.more_bytes)
            (run-append room limit fits ps h.more idle ∙ rw e h.runs);
      }

  packets-take : (k : ℕ) (ps : List (List ℕ)) → Packets ps → Packets (take k ps)
  packets-take zero ps h = tt
  packets-take (suc k) [] h = tt
  packets-take (suc k) (p ∷ ps) h = (h.0, packets-take k ps h.1)

  module _ (ps : List (List ℕ)) (bytes : Packets ps) where
    -- what the run of all packets comes to
    data Comes : Type 0 where
      to_end : run_of room limit idle ps ≡ some idle → answer_of room limit ps ≡ lawful → Comes
      to-open : (t : State) → run_of room limit idle ps ≡ some t → all_idle t ≡ false → answer_of room limit ps ≡ open·ended → Comes
      to-stop : (k : ℕ) (t : State) → answer_of room limit ps ≡ unlawful k → run_of room limit idle (take k ps) ≡ some t → run_of room limit idle (take (suc k) ps) ≡ none
          → run_of room limit idle ps ≡ none → Comes

    end-comes : (t : State) → run_of room limit idle ps ≡ some t → (b : Bool) → all_idle t ≡ b → answer_of room limit ps ≡ cond b lawful open·ended → Comes
    end-comes t e true i a = to_end (rw (idle-when t i) at e) a
    end-comes t e false i a = to-open t e i a

    comes-by : (o : Option State) → run_of room limit idle ps ≡ o → Comes
    comes-by none e =
        let h = stops room limit ps 0 idle e in
        to-stop h.index h.last-state (h.answer-is ∙ ap unlawful (omega arith)) h.taken-before h.stopped-at e
    comes-by (some t) e = end-comes t e (all_idle t) refl (end_is room limit ps t 0 idle e)

    comes : Comes
    comes = comes-by (run_of room limit idle ps) refl

    answer-lawful : LawfulPackets room limit ps → answer_of room limit ps ≡ lawful
    answer-lawful l = end_is room limit ps idle 0 idle (lawful-runs room limit fits ps l)

    lawful-by : Comes → answer_of room limit ps ≡ lawful → LawfulPackets room limit ps
    lawful-by (to_end e a) q = runs-lawful room limit fits ps bytes e
    lawful-by (to-open t e i a) q = let z : ◌≡◌ {A = ℕ} 0 1 = cc in absurd (omega arith)
    lawful-by (to-stop k t a e f g) q = let z : ◌≡◌ {A = ℕ} 0 1 = cc in absurd (omega arith)

    open_by : Comes → answer_of room limit ps ≡ open·ended → Viable room limit ps × ¬ (LawfulPackets room limit ps)
    open_by (to_end e a) q = let z : ◌≡◌ {A = ℕ} 0 1 = cc in absurd (omega arith)
    open_by (to-open t e i a) q = (goes-viable ps bytes t e, λ l. let u = answer-lawful l in let z : ◌≡◌ {A = ℕ} 0 1 = cc in omega arith)
    open_by (to-stop k t a e f g) q = let z : ◌≡◌ {A = ℕ} 0 1 = cc in absurd (omega arith)

    answer-open : Comes → Viable room limit ps → ¬ (LawfulPackets room limit ps) → answer_of room limit ps ≡ open·ended
    answer-open (to_end e a) v n = absurd (n (runs-lawful room limit fits ps bytes e))
    answer-open (to-open t e i a) v n = a
    answer-open (to-stop k t a e f g) v n = let h = viable-goes ps v in never-some h.state (sym g ∙ h.goes)

    unlawful-by : Comes → (k : ℕ) → answer_of room limit ps ≡ unlawful k → Viable room limit (take k ps) × ¬ (Viable room limit (take (suc k) ps))
    unlawful-by (to_end e a) k q = let z : ◌≡◌ {A = ℕ} 0 1 = cc in absurd (omega arith)
    unlawful-by (to-open t e i a) k q = let z : ◌≡◌ {A = ℕ} 0 1 = cc in absurd (omega arith)
    unlawful-by (to-stop j t a e f g) k q =
        let z : j ≡ k = cc in
        let e2 : run_of room limit idle (take k ps) ≡ some t = rw z at e in
        let f2 : run_of room limit idle (take (suc k) ps) ≡ none = rw z at f in
        (goes-viable (take k ps) (packets-take k ps bytes) t e2, λ v. let h = viable-goes (take (suc k) ps) v in never-some h.state (sym f2 ∙ h.goes))

    -- a run that does not go on stops
    stopped_by : (qs : List (List ℕ)) → Packets qs → ¬ (Viable room limit qs) → (o : Option State) → run_of room limit idle qs ≡ o → run_of room limit idle qs ≡ none
    stopped_by qs b n none e = e
    stopped_by qs b n (some t) e = absurd (n (goes-viable qs b t e))

    answer-unlawful : (k : ℕ) → Viable room limit (take k ps) → ¬ (Viable room limit (take (suc k) ps)) → answer_of room limit ps ≡ unlawful k
    answer-unlawful k v n =
        let h = viable-goes (take k ps) v in
        stop_is room limit ps k 0 h.state idle h.goes (stopped_by (take (suc k) ps) (packets-take (suc k) ps bytes) n (run_of room limit idle (take (suc k) ps)) refl)
        ∙ ap unlawful (omega arith)

pub judge-is-right : (room limit : ℕ) (ps : List (List ℕ)) → InRange room limit → Packets ps
    → (answer_of room limit ps ≡ lawful ↔ LawfulPackets room limit ps)
    × (answer_of room limit ps ≡ open·ended ↔ (Viable room limit ps × ¬ (LawfulPackets room limit ps)))
    × ((k : ℕ) → answer_of room limit ps ≡ unlawful k ↔ (Viable room limit (take k ps) × ¬ (Viable room limit (take (suc k) ps))))
judge-is-right room limit ps fits bytes = (
  (lawful-by room limit fits ps bytes (comes room limit fits ps bytes), answer-lawful room limit fits ps bytes),
  (open_by room limit fits ps bytes (comes room limit fits ps bytes), λ h. answer-open room limit fits ps bytes (comes room limit fits ps bytes) h.0 h.1),
  (λ k. (unlawful-by room limit fits ps bytes (comes room limit fits ps bytes) k, λ h. answer-unlawful room limit fits ps bytes k h.0 h.1)),
)
