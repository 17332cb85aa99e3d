-- A whole row of slots stored: what it leaves.
use Prim.Native.Nat.{ℕ, zero, suc, ◌+◌, ◌≤◌, ◌<◌}
use native.Mathlib.Nat.{not-suc-le-zero, le_of_suc-le-suc, add-zero, zero-add}
use native.Mathlib.Omega.{arith}
use mathlib.Core.Path.{◌≡◌, refl, sym, ap, ◌∙◌}
use mathlib.Core.List.{List}
use mathlib.Core.Bool.{Bool, true, false}
use lib.Dec.{eqb}
use lib.ListN.{length, get_or, set, length-set}
use lib.Seq.{set-get_or, get_or-set_same, get_or-set_other, ext_get_or}
use borrow.Author.Tests.{eqb-true, eqb-false}
use Rattle.ble_slot.specs.declared.Slot.{Slot}
use Rattle.ble_slot.specs.Slot.{idle, slot_count}
use Rattle.ble_receiver.specs.Outcome.{slots_from, first_twelve}
use Rattle.ble_link.specs.Row.{stored_up_to, saved_row}

pub stored-length : (n : ℕ) (slots row : List Slot) → length (stored_up_to n slots row) ≡ length row
stored-length zero slots row = refl
stored-length (suc n) slots row = length-set (stored_up_to n slots row) n _ ∙ stored-length n slots row

-- ---- what was loaded is stored again: the row stays, whatever its length

from_at : (n i at : ℕ) (l : List Slot) → i < n → get_or (slots_from n at l) i idle ≡ get_or l (at + i) idle
from_at zero i at l h = absurd (not-suc-le-zero h)
from_at (suc n) zero at l h = ap (λ (j : ℕ). get_or l j idle) (sym (add-zero at))
from_at (suc n) (suc i) at l h = from_at n i (suc at) l (le_of_suc-le-suc h) ∙ ap (λ (j : ℕ). get_or l j idle) (shift at i)
  where
    shift : (k i : ℕ) → suc k + i ≡ k + suc i
    shift k i = omega arith

stored_same : (n : ℕ) (slots row : List Slot) → ((i : ℕ) → i < n → get_or slots i idle ≡ get_or row i idle) → stored_up_to n slots row ≡ row
stored_same zero slots row same = refl
stored_same (suc n) slots row same =
    ap (λ (l : List Slot). set l n (get_or slots n idle)) (stored_same n slots row (λ i h. same i (omega arith)))
    ∙ ap (set row n) (same n (omega arith))
    ∙ set-get_or row n idle

pub saved-loaded : (row : List Slot) → saved_row row (first_twelve row) ≡ row
unfolding saved_row first_twelve
saved-loaded row =
    stored_same slot_count (slots_from slot_count 0 row) row (λ i h. from_at slot_count i 0 row h ∙ ap (λ (j : ℕ). get_or row j idle) (zero-add i))

-- ---- a row of twelve becomes the twelve that are stored

stored-by : (n i : ℕ) (slots row : List Slot) (b : Bool) → eqb i n ≡ b → i < suc n → suc n ≤ length row
    → (i < n → get_or (stored_up_to n slots row) i idle ≡ get_or slots i idle) → get_or (stored_up_to (suc n) slots row) i idle ≡ get_or slots i idle
stored-by n i slots row true e h l before =
    let same : i ≡ n = eqb-true i n e in
    rw same (get_or-set_same (stored_up_to n slots row) n (get_or slots n idle) idle (omega (arith, stored-length n slots row)))
stored-by n i slots row false e h l before =
    let other : (i ≡ n → ⊥) = eqb-false i n e in
    get_or-set_other (stored_up_to n slots row) n i (get_or slots n idle) idle other ∙ before (omega arith)

stored_at : (n i : ℕ) (slots row : List Slot) → i < n → n ≤ length row → get_or (stored_up_to n slots row) i idle ≡ get_or slots i idle
stored_at zero i slots row h l = absurd (not-suc-le-zero h)
stored_at (suc n) i slots row h l = stored-by n i slots row (eqb i n) refl h l (λ k. stored_at n i slots row k (omega arith))

pub saved-twelve : (row slots : List Slot) → length row ≡ slot_count → length slots ≡ slot_count → saved_row row slots ≡ slots
unfolding saved_row
saved-twelve row slots e f =
    let l : length (stored_up_to slot_count slots row) ≡ length row = stored-length slot_count slots row in
    ext_get_or idle (stored_up_to slot_count slots row) slots (omega arith) (λ i h. stored_at slot_count i slots row (omega arith) (omega arith))
