-- What a state row that fits tells: a row that is written is taken as its state, and one that is taken is the row of its state.
use Prim.Native.Nat.{ℕ, zero, suc, ◌<◌}
use native.Mathlib.Omega.{arith}
use mathlib.Core.Path.{◌≡◌, refl, ap, ◌∙◌}
use mathlib.Core.Bool.{true}
use mathlib.Core.List.{List, [], ◌∷◌}
use lib.ListN.{length, get_or}
use lib.Dec.{eqb, ltb}
use borrow.Author.Tests.{eqb-true, ltb-true, lt-ltb}
use Rattle.wire.proofs.Tests.{and_left, and_right}
use Rattle.c_rows.proofs.Wholes.{numbers-whole}
use Rattle.classic_frame.specs.declared.mark.Kind.{Kind}
use Rattle.classic_frame.specs.declared.mark.Kind.TheVariants as kind
use Rattle.classic_parts.specs.declared.state.Stage.{Stage}
use Rattle.classic_parts.specs.declared.state.Stage.TheVariants.{Start, PacketId, ErrorId, Sequence, Payload, Low, End, Done}
use Rattle.classic_parts.specs.declared.state.PartProgress.{PartProgress}
use Rattle.classic_parts.specs.declared.state.PartWriter.{PartWriter}
use Rattle.c_classic_parts.specs.Convert.{stage_number, stage_of, pending_number, pending_of, is_state, state_of, state_row}

module _ (row : List ℕ) (e : is_state row ≡ true) where
  pub state-long : length row ≡ 7
  unfolding is_state
  state-long = eqb-true (length row) 7 (and_left _ _ e)

  pub sequence-small : get_or row 1 0 < 256
  unfolding is_state
  sequence-small = ltb-true (get_or row 1 0) 256 (and_left (ltb (get_or row 1 0) 256) _ (and_right (eqb (length row) 7) _ e))

  pub sum-small : get_or row 4 0 < 65536
  unfolding is_state
  sum-small = ltb-true (get_or row 4 0) 65536 (and_left (ltb (get_or row 4 0) 65536) _ (and_right (ltb (get_or row 1 0) 256) _ (and_right (eqb (length row) 7) _ e)))

  small-codes : (get_or row 5 0 < 8) × (get_or row 6 0 < 4)
  unfolding is_state
  small-codes =
      let codes = and_right (ltb (get_or row 4 0) 65536) _ (and_right (ltb (get_or row 1 0) 256) _ (and_right (eqb (length row) 7) _ e)) in
      (ltb-true (get_or row 5 0) 8 (and_left (ltb (get_or row 5 0) 8) _ codes), ltb-true (get_or row 6 0) 4 (and_right (ltb (get_or row 5 0) 8) _ codes))

-- ---- stages and pending codes, and their numbers
stage-again : (at : Stage) → (ltb (stage_number at) 8 ≡ true) × (stage_of (stage_number at) ≡ at)
unfolding stage_of
stage-again Start = (refl, refl)
stage-again PacketId = (refl, refl)
stage-again ErrorId = (refl, refl)
stage-again Sequence = (refl, refl)
stage-again Payload = (refl, refl)
stage-again Low = (refl, refl)
stage-again End = (refl, refl)
stage-again Done = (refl, refl)

stage-number-again : (n : ℕ) → n < 8 → stage_number (stage_of n) ≡ n
unfolding stage_of
stage-number-again zero h = refl
stage-number-again (suc zero) h = refl
stage-number-again (suc (suc zero)) h = refl
stage-number-again (suc (suc (suc zero))) h = refl
stage-number-again (suc (suc (suc (suc zero)))) h = refl
stage-number-again (suc (suc (suc (suc (suc zero))))) h = refl
stage-number-again (suc (suc (suc (suc (suc (suc zero)))))) h = refl
stage-number-again (suc (suc (suc (suc (suc (suc (suc zero))))))) h = refl
stage-number-again (suc (suc (suc (suc (suc (suc (suc (suc n)))))))) h = absurd (omega arith)

pending-again : (k : Kind) → (ltb (pending_number k) 4 ≡ true) × (pending_of (pending_number k) ≡ k)
unfolding pending_of
pending-again kind.Start = (refl, refl)
pending-again kind.End = (refl, refl)
pending-again kind.Escape = (refl, refl)
pending-again kind.Plain = (refl, refl)

pending-number-again : (n : ℕ) → n < 4 → pending_number (pending_of n) ≡ n
unfolding pending_of
pending-number-again zero h = refl
pending-number-again (suc zero) h = refl
pending-number-again (suc (suc zero)) h = refl
pending-number-again (suc (suc (suc zero))) h = refl
pending-number-again (suc (suc (suc (suc n)))) h = absurd (omega arith)

-- ---- rows and states
pub state-again : (limit : ℕ) (s : PartProgress) → s.sequence < 256 → s.sum < 65536
    → (is_state (state_row limit s) ≡ true) × (state_of (state_row limit s) ≡ record { limit = limit; progress = s })
unfolding is_state state_of
state-again limit s h k = (
  rw (lt-ltb s.sequence 256 h, lt-ltb s.sum 65536 k, (stage-again s.stage).0) (pending-again s.pending).0,
  ap (λ (at : Stage). made at (pending_of (pending_number s.pending))) (stage-again s.stage).1 ∙ ap (made s.stage) (pending-again s.pending).1,
)
  where
    made : Stage → Kind → PartWriter
    made at code =
        record { limit = limit; progress = record { sequence = s.sequence; total = s.total; taken = s.taken; sum = s.sum; stage = at; pending = code } }

pub row-again : (row : List ℕ) → is_state row ≡ true
    → ((state_of row).progress.sequence < 256) × ((state_of row).progress.sum < 65536) × (state_row (state_of row).limit (state_of row).progress ≡ row)
unfolding state_of
row-again row e = (
  sequence-small row e,
  sum-small row e,
  ap (λ (n : ℕ). made n (pending_number (pending_of (get_or row 6 0)))) (stage-number-again (get_or row 5 0) (small-codes row e).0)
      ∙ ap (made (get_or row 5 0)) (pending-number-again (get_or row 6 0) (small-codes row e).1)
      ∙ numbers-whole 7 row (state-long row e),
)
  where
    made : ℕ → ℕ → List ℕ
    made at code = get_or row 0 0 ∷ get_or row 1 0 ∷ get_or row 2 0 ∷ get_or row 3 0 ∷ get_or row 4 0 ∷ at ∷ code ∷ []
