-- The components of a row, one after another.
use Prim.Native.Nat.{ℕ, zero, suc, ◌+◌, ◌*◌, ◌<◌}
use native.Mathlib.Numerals.{add-one}
use native.Mathlib.Omega.{arith}
use mathlib.Core.Path.{◌≡◌, refl, sym, ap, ◌∙◌}
use mathlib.Core.Bool.{true, false}
use mathlib.Core.List.{List, [], ◌∷◌, ◌++◌}
use lib.ListN.{length, take, get_or}
use lib.Seq.{sets, take-suc, length-take-le}
use Rattle.wire.proofs.Stores.{sets_then}
use Rattle.msg_firmware.specs.declared.component.FirmwareComponent.{FirmwareComponent}
use Rattle.msg_firmware.specs.Component.{no_component}
use Rattle.c_firmware_rows.specs.Apply.{component_row, component_rows, component_at, components_at, wide_at, any_wide}

-- ---- written
pub rows-length : (cs : List FirmwareComponent) → length (component_rows cs) ≡ 6 * length cs
rows-length [] = refl
rows-length (c ∷ cs) = rw (rows-length cs) (omega arith)

rows_append : (xs ys : List FirmwareComponent) → component_rows (xs ++ ys) ≡ component_rows xs ++ component_rows ys
rows_append [] ys = refl
rows_append (x ∷ xs) ys = ap (λ (l : List ℕ). component_row x ++ l) (rows_append xs ys)

-- one component more
pub rows_more : (row : List ℕ) (cs : List FirmwareComponent) (i at : ℕ) → at ≡ 9 + 6 * i → i < length cs
    → sets (sets row 9 (component_rows (take i cs))) at (component_row (get_or cs i no_component)) ≡ sets row 9 (component_rows (take (i + 1) cs))
rows_more row cs i at e h =
    let more : component_rows (take i cs) ++ component_row (get_or cs i no_component) ≡ component_rows (take (i + 1) cs) =
    rw (add-one, take-suc cs i no_component h) (sym (rows_append (take i cs) (get_or cs i no_component ∷ [])))
    in
    sets_then row 9 at (component_rows (take i cs)) (component_row (get_or cs i no_component)) (rw (rows-length (take i cs), length-take-le i cs (omega arith)) e)
    ∙ ap (sets row 9) more

-- ---- read
module _ (row : List ℕ) where
  -- one component more
  pub read_more : (n at : ℕ) → components_at (suc n) row at ≡ components_at n row at ++ (component_at row (at + 6 * n) ∷ [])
  read_more zero at =
      let e : at ≡ at + 6 * 0 = omega arith in ap (λ (x : ℕ). component_at row x ∷ []) e
  read_more (suc n) at =
      let e : at + 6 + 6 * n ≡ at + 6 * suc n = omega arith in
      ap (λ (l : List FirmwareComponent). component_at row at ∷ l)
      (read_more n (at + 6) ∙ ap (λ (x : ℕ). components_at n row (at + 6) ++ (component_at row x ∷ [])) e)

  -- a component with a number above 32 bits decides, any other leaves it to the rest
  pub wide-stop : (n at : ℕ) → 0 < n → wide_at row at ≡ true → any_wide n row at ≡ true
  wide-stop zero at h e = absurd (omega arith)
  wide-stop (suc n) at h e = rw e

  pub wide-more : (n at : ℕ) → wide_at row at ≡ false → any_wide (suc n) row at ≡ any_wide n row (at + 6)
  wide-more n at e = rw e
