-- Every string that a reader's row tells lies within the message and is well formed.
use Prim.Native.Nat.{ℕ, zero, suc, ◌+◌, ◌≤◌, zero-le}
use mathlib.Core.Path.{◌≡◌, refl, sym, ap, subst, ◌∙◌}
use mathlib.Core.Bool.{Bool, true, false, cond}
use mathlib.Core.List.{List, [], ◌∷◌, ◌++◌}
use native.Mathlib.Omega.{arith}
use lib.ListN.{length, take, get_or, replicate}
use lib.Seq.{get_or-append-add}
use lib.Dec.{eqb}
use borrow.Author.Tests.{eq-eqb, eqb-true}
use Rattle.wire.specs.Told.{ToldMore, given, refused, and_then}
use Rattle.proto_field.proofs.Told.{Sat, sat-then}
use Rattle.utf8.specs.WellFormed.{WellFormed, empty, bad_place}
use Rattle.utf8.proofs.Places.{well-formed-whole, whole-well-formed}
use Rattle.proto_reader.specs.declared.gathered.Gathered.{Gathered}
use Rattle.proto_schema.specs.declared.Schema.TheVariants as Schema
use Rattle.proto_schema.specs.Schema.{first, second, third}
use Rattle.proto_reader.specs.Refusal.{Strings, TellsStrings, number_more}
use Rattle.proto_reader.specs.Walk.{fields_from}
use Rattle.proto_reader.proofs.Strings.{text-get}
use Rattle.msg_device.specs.declared.information.DeviceInformation.{DeviceInformation}
use Rattle.msg_device.specs.Information.{information_of, information_parts}
use Rattle.msg_firmware.specs.declared.component.FirmwareComponent.{FirmwareComponent}
use Rattle.msg_firmware.specs.declared.segment.UpdateComponentSegment.{UpdateComponentSegment}
use Rattle.msg_firmware.specs.declared.apply.ApplyFirmware.{ApplyFirmware}
use Rattle.msg_firmware.specs.Segment.{segment_made, segment_judged, segment_of, segment_parts}
use Rattle.msg_firmware.specs.Apply.{apply_of}
use Rattle.msg_firmware.proofs.Segments.{judged-within}
use Rattle.msg_firmware_claims.specs.RoundTrip.{ComponentsWritable, FirmwareWritable}
use Rattle.msg_firmware.proofs.Insides.{Gathers, gathers, text-within}
use Rattle.msg_firmware_claims.proofs.Told.{apply-takes}
use Rattle.c_rows.specs.Row.{afterwards}
use Rattle.c_rows.specs.Called.{called, if_fit, answers}
use Rattle.c_message_rows.specs.Convert.{information_row}
use Rattle.c_firmware_rows.specs.Segment.{segment_row}
use Rattle.c_firmware_rows.specs.Apply.{answer_size, component_row, component_rows, head_row, apply_row}
use Rattle.c_messages.specs.Calls.{information_read_of}
use Rattle.c_firmware.specs.Calls.{segment_read_of, apply_read_of}
use Rattle.c_text.specs.Calls.{text_of}
use Rattle.c_claims.specs.SizesSuffice.{LiesAt}
use Rattle.c_claims.specs.StringsWellFormed.{ComponentsLie, StringsWellFormed}

-- what holds of the row holds of the answer of a call that returns 0
pub told-row : (size number : ℕ) (answer row : List ℕ) (P : List ℕ → Type 0) → P row
    → (answers size answer [] number [] row).number ≡ 0 → P (answers size answer [] number [] row).answer
told-row size number answer row P p = by-fit (eqb (length answer) size)
  where
    by-fit : (fit : Bool) → (if_fit fit [] [] answer (called number [] [] (afterwards number answer row))).number ≡ 0
        → P (if_fit fit [] [] answer (called number [] [] (afterwards number answer row))).answer
    by-fit true e = let same : afterwards number answer row ≡ row = rw e in subst P (sym same) p
    by-fit false e = absurd (omega arith)

-- ---- device information
information-strings : (s : List ℕ) → Sat (λ (i : DeviceInformation). Strings s (information_parts i)) (information_of s)
unfolding information_of
information-strings s =
    sat-then (Gathers s) (λ (i : DeviceInformation). Strings s (information_parts i)) (fields_from Schema.Information s 0) _ (gathers Schema.Information s 0)
    (λ g w. (
      (text-within s g first w, (text-within s g second w, (text-within s g third w, tt))),
      (text-get s g.texts first w.texts, (text-get s g.texts second w.texts, (text-get s g.texts third w.texts, tt))),
    ))

information-lies : (s : List ℕ) (t : ToldMore DeviceInformation) → Sat (λ (i : DeviceInformation). Strings s (information_parts i)) t
    → LiesAt s (information_row t) 0 × LiesAt s (information_row t) 2 × LiesAt s (information_row t) 4
information-lies s (given i) w = ((w.0.0, w.1.0), (w.0.1.0, w.1.1.0), (w.0.1.1.0, w.1.1.1.0))
information-lies s (refused why) w = ((zero-le, empty), (zero-le, empty), (zero-le, empty))

-- ---- a segment
segment-strings : (s : List ℕ) → TellsStrings s segment_parts (segment_of s)
unfolding segment_of
segment-strings s = by-gathered (fields_from Schema.Segment s 0) (gathers Schema.Segment s 0)
  where
    by-gathered : (r : ToldMore Gathered) → Sat (Gathers s) r → TellsStrings s segment_parts (and_then r (λ g. segment_judged s (segment_made g)))
    by-gathered (given g) w =
        judged-within s (segment_made g) (text-within s g first w, (text-within s g second w, tt)) (text-get s g.texts first w.texts, (text-get s g.texts second w.texts, tt))
    by-gathered (refused why) w = tt

segment-lies : (s : List ℕ) (t : ToldMore UpdateComponentSegment) → TellsStrings s segment_parts t → LiesAt s (segment_row t) 0 × LiesAt s (segment_row t) 4
segment-lies s (given m) w = ((w.0.0, w.1.0), (w.0.1.0, w.1.1.0))
segment-lies s (refused why) w = ((zero-le, empty), (zero-le, empty))

-- ---- ApplyFirmware
module _ (s : List ℕ) where
  -- what stands before does not count
  lies-behind : (pre row : List ℕ) (k : ℕ) → LiesAt s row k → LiesAt s (pre ++ row) (length pre + k)
  lies-behind pre row k h =
      let e : length pre + k + 1 ≡ length pre + (k + 1) = omega arith in
      let next : get_or (pre ++ row) (length pre + k + 1) 0 ≡ get_or row (k + 1) 0 = ap (λ (x : ℕ). get_or (pre ++ row) x 0) e ∙ get_or-append-add pre row (k + 1) 0 in
      rw (get_or-append-add pre row k 0, next) h

  pub at-index : (pre row : List ℕ) (k n : ℕ) → LiesAt s row (k + n) → LiesAt s (pre ++ row) (length pre + k + n)
  at-index pre row k n h =
      let e : length pre + (k + n) ≡ length pre + k + n = omega arith in
      subst (LiesAt s (pre ++ row)) e (lies-behind pre row (k + n) h)

  components-behind : (pre row : List ℕ) (n k : ℕ) → ComponentsLie n s row k → ComponentsLie n s (pre ++ row) (length pre + k)
  components-behind pre row zero k h = tt
  components-behind pre row (suc n) k h =
      let e : length pre + (k + 6) ≡ length pre + k + 6 = omega arith in
      ((at-index pre row k 1 h.0.0, at-index pre row k 4 h.0.1), subst (ComponentsLie n s (pre ++ row)) e (components-behind pre row n (k + 6) h.1))

  components-lie : (n : ℕ) (cs : List FirmwareComponent) (rest : List ℕ) → n ≤ length cs → ComponentsWritable s (take n cs) → ComponentsLie n s (component_rows cs ++ rest) 0
  components-lie zero cs rest l h = tt
  components-lie (suc n) [] rest l h = absurd (omega arith)
  components-lie (suc n) (c ∷ cs) rest l h = (
    ((h.0.2.0.0, h.0.2.1.0), (h.0.2.0.1.0, h.0.2.1.1.0)),
    components-behind (component_row c) (component_rows cs ++ rest) n 0 (components-lie n cs rest (omega arith) h.1),
  )

  apply-lies : (t : ToldMore ApplyFirmware) → Sat (λ (a : ApplyFirmware). FirmwareWritable s a.firmware_information) t
      → LiesAt s (apply_row t) 2 × LiesAt s (apply_row t) 4 × LiesAt s (apply_row t) 6 × ComponentsLie (get_or (apply_row t) 8 0) s (apply_row t) 9
  apply-lies (given a) w =
      let f = a.firmware_information in
      let texts = w.strings in (
        (texts.0.0, texts.1.0),
        (texts.0.1.0, texts.1.1.0),
        (texts.0.1.1.0, texts.1.1.1.0),
        components-behind (head_row a) (component_rows f.components ++ replicate 2 0) f.count 0 (components-lie f.count f.components (replicate 2 0) w.there w.components),
      )
  apply-lies (refused why) w = ((zero-le, empty), (zero-le, empty), (zero-le, empty), tt)

-- a text by whether it is well formed
text-exactly : (text answer : List ℕ) → length answer ≡ 2 → ((text_of text answer).number ≡ 0 → WellFormed text) × (WellFormed text → (text_of text answer).number ≡ 0)
unfolding text_of
text-exactly text answer e =
    rw (eq-eqb (length answer) 2 e)
    (λ z. whole-well-formed text (whole (eqb (bad_place text) (length text)) refl z), λ w. rw (eq-eqb (bad_place text) (length text) (well-formed-whole text w)))
  where
    whole : (t : Bool) → eqb (bad_place text) (length text) ≡ t → ◌≡◌ {A = ℕ} (cond t 0 36) 0 → bad_place text ≡ length text
    whole true k z = eqb-true (bad_place text) (length text) k
    whole false k z = absurd (omega (arith, z))

pub strings-well-formed : StringsWellFormed
unfolding information_read_of segment_read_of apply_read_of
strings-well-formed = record {
  information-read = λ message answer.
      let t = information_of message in
      told-row 17 (number_more t) answer (information_row t) (λ row. LiesAt message row 0 × LiesAt message row 2 × LiesAt message row 4) (information-lies message t (information-strings message));
  segment-read = λ message answer.
      let t = segment_of message in
      told-row 8 (number_more t) answer (segment_row t) (λ row. LiesAt message row 0 × LiesAt message row 4) (segment-lies message t (segment-strings message));
  apply-read = λ message answer.
      let t = apply_of message in
      told-row answer_size (number_more t) answer (apply_row t) (λ row. LiesAt message row 2 × LiesAt message row 4 × LiesAt message row 6 × ComponentsLie (get_or row 8 0) message row 9) (apply-lies message t (apply-takes message));
  text = text-exactly;
}
