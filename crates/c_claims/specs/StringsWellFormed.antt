-- The claim that every string that a reader's row tells lies within the message and is well formed; and that pito_text returns 0 exactly of
-- what is well formed.
use Rattle.std.specs.Prelude.{ℕ, zero, suc, ◌+◌, ◌≡◌, List, length, get_or}
use Rattle.utf8.specs.WellFormed.{WellFormed}
use Rattle.c_messages.specs.Calls.{information_read_of}
use Rattle.c_firmware.specs.Calls.{segment_read_of, apply_read_of}
use Rattle.c_text.specs.Calls.{text_of}
use Rattle.c_claims.specs.SizesSuffice.{LiesAt}

-- name and signature of this many components from a place on
abbrev pub ComponentsLie : ℕ → List ℕ → List ℕ → ℕ → Type 0
ComponentsLie zero message row at = Unit {0}
ComponentsLie (suc n) message row at = (LiesAt message row (at + 1) × LiesAt message row (at + 4)) × ComponentsLie n message row (at + 6)

-- where a call returns 0
pub record StringsWellFormed : Type 0 where
  -- serial number, name, device type
  pub information-read : (message answer : List ℕ) → let c = information_read_of message answer in
      c.number ≡ 0 → LiesAt message c.answer 0 × LiesAt message c.answer 2 × LiesAt message c.answer 4
  -- name, signature
  pub segment-read : (message answer : List ℕ) → let c = segment_read_of message answer in
      c.number ≡ 0 → LiesAt message c.answer 0 × LiesAt message c.answer 4
  -- name, locale, version_name, and the strings of the components that are there
  pub apply-read : (message answer : List ℕ) → let c = apply_read_of message answer in
      c.number ≡ 0 → LiesAt message c.answer 2 × LiesAt message c.answer 4 × LiesAt message c.answer 6 × ComponentsLie (get_or c.answer 8 0) message c.answer 9
  pub text : (text answer : List ℕ) → length answer ≡ 2 → ((text_of text answer).number ≡ 0 → WellFormed text) × (WellFormed text → (text_of text answer).number ≡ 0)
