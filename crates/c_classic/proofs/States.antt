-- What a state row that fits tells: a row that is written is taken as its state, and one that is taken is the row of its state.
use Prim.Native.Nat.{ℕ, zero, suc, ◌<◌}
use native.Mathlib.Omega.{arith}
use mathlib.Core.Path.{◌≡◌, refl, ap, ◌∙◌}
use mathlib.Core.Bool.{true}
use mathlib.Core.List.{List, [], ◌∷◌}
use lib.ListN.{length, get_or}
use lib.Seq.{sets}
use lib.Dec.{eqb, ltb}
use borrow.Author.Tests.{eqb-true, ltb-true, lt-ltb}
use Rattle.c_rows.proofs.Wholes.{sets-whole, numbers-whole}
use Rattle.wire.proofs.Tests.{and_left, and_right}
use Rattle.classic_extractor.specs.declared.state.Phase.{Phase}
use Rattle.classic_extractor.specs.declared.state.Phase.TheVariants.{Outside, PacketId, ErrorId, Sequence, Body, Escaped}
use Rattle.classic_extractor.specs.declared.state.Progress.{Progress}
use Rattle.c_classic.specs.Convert.{phase_number, phase_of, is_extractor, extractor_of, extractor_row}

module _ (row : List ℕ) (e : is_extractor row ≡ true) where
  pub state-long : length row ≡ 4
  unfolding is_extractor
  state-long = eqb-true (length row) 4 (and_left _ _ e)

  pub sequence-small : get_or row 2 0 < 256
  unfolding is_extractor
  sequence-small = ltb-true (get_or row 2 0) 256 (and_right (ltb (get_or row 1 0) 6) _ (and_right (eqb (length row) 4) _ e))

  phase-small : get_or row 1 0 < 6
  unfolding is_extractor
  phase-small = ltb-true (get_or row 1 0) 6 (and_left (ltb (get_or row 1 0) 6) _ (and_right (eqb (length row) 4) _ e))

pub limit-of : (row : List ℕ) → (extractor_of row).limit ≡ get_or row 0 0
unfolding extractor_of
limit-of row = refl

-- a row that is written after its limit
pub progress-written : (row : List ℕ) (phase sequence held : ℕ) → length row ≡ 4
    → sets row 1 (phase ∷ sequence ∷ held ∷ []) ≡ get_or row 0 0 ∷ phase ∷ sequence ∷ held ∷ []
progress-written [] phase sequence held e = absurd (omega arith)
progress-written (limit ∷ row) phase sequence held e =
    ap (λ (numbers : List ℕ). limit ∷ numbers) (sets-whole row (phase ∷ sequence ∷ held ∷ []) (omega arith))

-- ---- phases and their numbers
phase-again : (p : Phase) → (ltb (phase_number p) 6 ≡ true) × (phase_of (phase_number p) ≡ p)
unfolding phase_of
phase-again Outside = (refl, refl)
phase-again PacketId = (refl, refl)
phase-again ErrorId = (refl, refl)
phase-again Sequence = (refl, refl)
phase-again Body = (refl, refl)
phase-again Escaped = (refl, refl)

number-again : (n : ℕ) → n < 6 → phase_number (phase_of n) ≡ n
unfolding phase_of
number-again zero h = refl
number-again (suc zero) h = refl
number-again (suc (suc zero)) h = refl
number-again (suc (suc (suc zero))) h = refl
number-again (suc (suc (suc (suc zero)))) h = refl
number-again (suc (suc (suc (suc (suc zero))))) h = refl
number-again (suc (suc (suc (suc (suc (suc n)))))) h = absurd (omega arith)

-- ---- rows and states
pub state-again : (limit : ℕ) (s : Progress) → s.sequence < 256
    → (is_extractor (extractor_row limit s) ≡ true) × (extractor_of (extractor_row limit s) ≡ record { limit = limit; progress = s })
unfolding is_extractor extractor_of
state-again limit s h = (
  rw (phase-again s.phase).0 (lt-ltb s.sequence 256 h),
  ap (λ (p : Phase). record { limit = limit; progress = record { phase = p; sequence = s.sequence; held = s.held } }) (phase-again s.phase).1,
)

pub row-again : (row : List ℕ) → is_extractor row ≡ true
    → ((extractor_of row).progress.sequence < 256) × (extractor_row (extractor_of row).limit (extractor_of row).progress ≡ row)
unfolding extractor_of
row-again row e = (
  sequence-small row e,
  ap (λ (n : ℕ). get_or row 0 0 ∷ n ∷ get_or row 2 0 ∷ get_or row 3 0 ∷ []) (number-again (get_or row 1 0) (phase-small row e)) ∙ numbers-whole 4 row (state-long row e),
)
