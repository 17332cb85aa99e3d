-- What the check finds, and strings worked out by hand.
use Rattle.std.specs.Prelude.{ℕ, ◌≤◌, ◌≡◌, false, List, [], ◌∷◌, length, take, drop}
use Rattle.utf8.specs.Table.{described}
use Rattle.utf8.specs.WellFormed.{WellFormed, bad_place}

-- a place up to which a string is cut into sequences that rows describe, and at which none stands
pub record FirstBad (s : List ℕ) (place : ℕ) : Type 0 where
  pub inside : place ≤ length s
  pub before : WellFormed (take place s)
  pub none : (n : ℕ) → described (take n (drop place s)) ≡ false

unfoldable pub FindsFirstBad : Type 0
FindsFirstBad = (s : List ℕ) → FirstBad s (bad_place s)

unfoldable pub OnlyOneFirstBad : Type 0
OnlyOneFirstBad = (s : List ℕ) (place : ℕ) → FirstBad s place → place ≡ bad_place s

unfoldable pub WholeExactlyIfWellFormed : Type 0
WholeExactlyIfWellFormed = (s : List ℕ) → (WellFormed s → bad_place s ≡ length s) × (bad_place s ≡ length s → WellFormed s)

-- ---- by hand
abbrev places : List (List ℕ) → List ℕ
places [] = []
places (s ∷ ss) = bad_place s ∷ places ss

abbrev well_formed : List (List ℕ)
well_formed =
    []
    ∷ (0x00 ∷ 0x7F ∷ [])
    ∷ (0xC2 ∷ 0x80 ∷ 0xDF ∷ 0xBF ∷ [])
    ∷ (0xE0 ∷ 0xA0 ∷ 0x80 ∷ [])
    ∷ (0xE0 ∷ 0xBF ∷ 0x80 ∷ [])
    ∷ (0xE1 ∷ 0x80 ∷ 0x80 ∷ 0xEC ∷ 0xBF ∷ 0xBF ∷ [])
    ∷ (0xED ∷ 0x80 ∷ 0x80 ∷ [])
    ∷ (0xED ∷ 0x9F ∷ 0xBF ∷ [])
    ∷ (0xEE ∷ 0x80 ∷ 0x80 ∷ 0xEF ∷ 0xBF ∷ 0xBF ∷ [])
    ∷ (0xF0 ∷ 0x90 ∷ 0x80 ∷ 0x80 ∷ [])
    ∷ (0xF0 ∷ 0xBF ∷ 0x80 ∷ 0x80 ∷ [])
    ∷ (0xF1 ∷ 0x80 ∷ 0x80 ∷ 0x80 ∷ 0xF3 ∷ 0xBF ∷ 0xBF ∷ 0xBF ∷ [])
    ∷ (0xF4 ∷ 0x80 ∷ 0x80 ∷ 0x80 ∷ [])
    ∷ (0xF4 ∷ 0x8F ∷ 0xBF ∷ 0xBF ∷ 0x41 ∷ [])
    ∷ []

-- a tail alone, a sequence that is longer than it must be, a surrogate, one above 10FFFF, one cut short, one broken off, bytes that begin none
abbrev not_well_formed : List (List ℕ)
not_well_formed =
    (0x41 ∷ 0x80 ∷ [])
    ∷ (0xC0 ∷ 0x80 ∷ [])
    ∷ (0xC1 ∷ 0xBF ∷ [])
    ∷ (0x41 ∷ 0xE0 ∷ 0x80 ∷ 0x80 ∷ [])
    ∷ (0x41 ∷ 0x42 ∷ 0xE0 ∷ 0x9F ∷ 0xBF ∷ [])
    ∷ (0xC3 ∷ 0xA9 ∷ 0xED ∷ 0xA0 ∷ 0x80 ∷ [])
    ∷ (0xED ∷ 0xBF ∷ 0xBF ∷ [])
    ∷ (0x41 ∷ 0xF0 ∷ 0x8F ∷ 0xBF ∷ 0xBF ∷ [])
    ∷ (0xF4 ∷ 0x90 ∷ 0x80 ∷ 0x80 ∷ [])
    ∷ (0xF5 ∷ 0x80 ∷ 0x80 ∷ 0x80 ∷ [])
    ∷ (0x41 ∷ 0xC3 ∷ [])
    ∷ (0xE2 ∷ 0x82 ∷ [])
    ∷ (0xF0 ∷ 0x9F ∷ 0x98 ∷ 0x80 ∷ 0xF0 ∷ 0x9F ∷ 0x98 ∷ [])
    ∷ (0x41 ∷ 0xE2 ∷ 0x82 ∷ 0x41 ∷ [])
    ∷ (0xE2 ∷ 0x82 ∷ 0xAC ∷ 0xFF ∷ [])
    ∷ (0xC2 ∷ 0x7F ∷ [])
    ∷ (0xC2 ∷ 0xC0 ∷ [])
    ∷ (0xE0 ∷ 0xC0 ∷ 0x80 ∷ [])
    ∷ (0xE1 ∷ 0x7F ∷ 0x80 ∷ [])
    ∷ (0xE1 ∷ 0x80 ∷ 0xC0 ∷ [])
    ∷ (0xED ∷ 0x7F ∷ 0x80 ∷ [])
    ∷ (0xF0 ∷ 0xC0 ∷ 0x80 ∷ 0x80 ∷ [])
    ∷ (0xF1 ∷ 0x80 ∷ 0x7F ∷ 0x80 ∷ [])
    ∷ (0xF1 ∷ 0x80 ∷ 0x80 ∷ 0xC0 ∷ [])
    ∷ (0xF4 ∷ 0x7F ∷ 0x80 ∷ 0x80 ∷ [])
    ∷ []

pub record WorkedStrings : Type 0 where
  pub whole : places well_formed ≡ 0 ∷ 2 ∷ 4 ∷ 3 ∷ 3 ∷ 6 ∷ 3 ∷ 3 ∷ 6 ∷ 4 ∷ 4 ∷ 8 ∷ 4 ∷ 5 ∷ []
  pub bad : places not_well_formed ≡ 1 ∷ 0 ∷ 0 ∷ 1 ∷ 2 ∷ 2 ∷ 0 ∷ 1 ∷ 0 ∷ 0 ∷ 1 ∷ 0 ∷ 4 ∷ 1 ∷ 3 ∷ 0 ∷ 0 ∷ 0 ∷ 0 ∷ 0 ∷ 0 ∷ 0 ∷ 0 ∷ 0 ∷ 0 ∷ []
