-- The row that is told of an ApplyFirmware is one that its writer takes.
use Prim.Native.Nat.{ℕ, zero, suc, ◌+◌, ◌≤◌, zero-le}
use mathlib.Core.Path.{◌≡◌, refl, sym, ap, subst, ◌∙◌}
use mathlib.Core.Bool.{Bool, true, false}
use mathlib.Core.List.{List, [], ◌∷◌, ◌++◌}
use native.Mathlib.Omega.{arith}
use lib.ListN.{length, take, get_or, replicate, length-append}
use lib.Seq.{get_or-append-add, take_at}
use Rattle.wire.specs.Told.{ToldMore, given, refused}
use Rattle.proto_field.proofs.Told.{Sat}
use Rattle.utf8.specs.WellFormed.{empty}
use Rattle.proto_reader.specs.Refusal.{number_more}
use Rattle.msg_firmware.specs.declared.component.FirmwareComponent.{FirmwareComponent}
use Rattle.msg_firmware.specs.declared.apply.ApplyFirmware.{ApplyFirmware}
use Rattle.msg_firmware.specs.Apply.{apply_of}
use Rattle.wire.specs.Bytes.{bit}
use Rattle.msg_firmware_claims.specs.RoundTrip.{ComponentsWritable, FirmwareWritable}
use Rattle.msg_firmware_claims.proofs.Told.{Eight, apply-takes, apply-eight}
use Rattle.c_message_rows.specs.Convert.{fault_of}
use Rattle.c_firmware_rows.specs.Apply.{row_size, answer_size, component_row, component_rows, head_row, whole_row, apply_row}
use Rattle.c_firmware_rows.proofs.Components.{rows-length}
use Rattle.c_firmware.specs.Calls.{apply_read_of}
use Rattle.c_claims.specs.SizesSuffice.{ComponentsFit, RowFits}
use Rattle.c_claims.specs.RowsAgree.{NumbersFit}
use Rattle.c_claims.proofs.Strings.{told-row, at-index}

pub numbers_fit : (s : List ℕ) (cs : List FirmwareComponent) → ComponentsWritable s cs → NumbersFit cs
numbers_fit s [] h = tt
numbers_fit s (c ∷ cs) h = ((h.0.0, h.0.1), numbers_fit s cs h.1)

bool-most : (b : Bool) → bit b ≤ 1
bool-most true = omega arith
bool-most false = omega arith

module _ (s : List ℕ) where
  fits-behind : (pre row : List ℕ) (n k : ℕ) → ComponentsFit n s row k → ComponentsFit n s (pre ++ row) (length pre + k)
  fits-behind pre row zero k h = tt
  fits-behind pre row (suc n) k h =
      let e : length pre + (k + 6) ≡ length pre + k + 6 = omega arith in
      let three : length pre + k + 3 ≡ length pre + (k + 3) = omega arith in
      let size : get_or (pre ++ row) (length pre + k + 3) 0 ≡ get_or row (k + 3) 0 = ap (λ (x : ℕ). get_or (pre ++ row) x 0) three ∙ get_or-append-add pre row (k + 3) 0 in (
        (rw (get_or-append-add pre row k 0) h.0.0, at-index s pre row k 1 h.0.1, rw size h.0.2, at-index s pre row k 4 h.0.3),
        subst (ComponentsFit n s (pre ++ row)) e (fits-behind pre row n (k + 6) h.1),
      )

  components-fit : (n : ℕ) (cs : List FirmwareComponent) → n ≤ length cs → ComponentsWritable s (take n cs) → ComponentsFit n s (component_rows cs) 0
  components-fit zero cs l h = tt
  components-fit (suc n) [] l h = absurd (omega arith)
  components-fit (suc n) (c ∷ cs) l h = (
    (h.0.0, (h.0.2.0.0, h.0.2.1.0), h.0.1, (h.0.2.0.1.0, h.0.2.1.1.0)),
    fits-behind (component_row c) (component_rows cs) n 0 (components-fit n cs (omega arith) h.1),
  )

  row_fits : (a : ApplyFirmware) → FirmwareWritable s a.firmware_information → RowFits s (whole_row a)
  row_fits a w =
      let f = a.firmware_information in
      let texts = w.strings in
      record {
        restart = bool-most a.restart_required;
        version = w.number;
        name = (texts.0.0, texts.1.0);
        locale = (texts.0.1.0, texts.1.1.0);
        version-name = (texts.0.1.1.0, texts.1.1.1.0);
        most = w.most;
        components = fits-behind (head_row a) (component_rows f.components) f.count 0 (components-fit f.count f.components w.there w.components);
      }

abbrev Fits : List ℕ → List ℕ → Type 0
Fits s row = (length (take 57 row) ≡ 57) × RowFits s (take 57 row)

given-fits : (s : List ℕ) (a : ApplyFirmware) → FirmwareWritable s a.firmware_information → Eight s a.firmware_information.components → Fits s (whole_row a ++ replicate 2 0)
given-fits s a w eight =
    let cs = a.firmware_information.components in
    let long : length (whole_row a) ≡ 57 = omega (arith, length-append (head_row a) (component_rows cs), rows-length cs, eight.0) in
    let first : take 57 (whole_row a ++ replicate 2 0) ≡ whole_row a = take_at (whole_row a) (replicate 2 0) 57 long in
    subst (λ (row : List ℕ). (length row ≡ 57) × RowFits s row) (sym first) (long, row_fits s a w)

-- the row of a refusal is all zeros
zeros-fit : (s more : List ℕ) → Fits s (replicate row_size 0 ++ more)
zeros-fit s more =
    let first : take 57 (replicate row_size 0 ++ more) ≡ replicate row_size 0 = take_at (replicate row_size 0) more 57 refl in
    rw first
    (refl, record { restart = omega arith; version = omega arith; name = (zero-le, empty); locale = (zero-le, empty); version-name = (zero-le, empty); most = omega arith; components = tt })

row_told : (s : List ℕ) (t : ToldMore ApplyFirmware) → Sat (λ (a : ApplyFirmware). FirmwareWritable s a.firmware_information) t
    → Sat (λ (a : ApplyFirmware). Eight s a.firmware_information.components) t → Fits s (apply_row t)
row_told s (given a) w eight = given-fits s a w eight
row_told s (refused why) w eight = zeros-fit s (fault_of why)

pub told-fits : (message answer : List ℕ) → (apply_read_of message answer).number ≡ 0 → Fits message (apply_read_of message answer).answer
unfolding apply_read_of
told-fits message answer =
    let t = apply_of message in
    told-row answer_size (number_more t) answer (apply_row t) (Fits message) (row_told message t (apply-takes message) (apply-eight message))
