-- Laws of texts that are ASCII: each part of them is well formed.
use Prim.Native.Nat.{ℕ, zero, suc, ◌<◌}
use mathlib.Core.Path.{◌≡◌, refl, ap, ◌∙◌}
use mathlib.Core.Bool.{false}
use mathlib.Core.List.{List, [], ◌∷◌, ◌++◌}
use native.Mathlib.Omega.{arith}
use lib.ListN.{length, get_or, take, drop}
use borrow.Author.Tests.{eq-eqb}
use Rattle.wire.specs.Scan.{any_in_range}
use Rattle.wire.proofs.Runs.{any-first}
use Rattle.proto_field.specs.declared.value.Part.{Part}
use Rattle.proto_field.specs.Value.{bytes_of}
use Rattle.utf8.specs.WellFormed.{WellFormed, empty, more, bad_place}
use Rattle.utf8.proofs.Sequences.{sequence-described, ascii-sequence}
use Rattle.utf8.proofs.Places.{not-above, well-formed-whole}
use Rattle.std.specs.Prelude.{Ok}
use Rattle.proto_strings.specs.Texts.{or_text, fault_from, first_fault}
use Rattle.proto_schema.specs.Schema.{firmware_name_field, locale_field, version_name_field, firmware_component_name_field, firmware_component_signature_field}
use Rattle.msg_firmware.specs.declared.component.FirmwareComponent.{FirmwareComponent}
use Rattle.msg_firmware.specs.declared.information.FirmwareInformation.{FirmwareInformation}
use Rattle.msg_apply_writer.specs.Information.{present, components_strings, firmware_strings}
use Rattle.msg_apply_writer.proofs.Texts.{fault-append}

-- every one is a byte, and none lies above ASCII
abbrev Ascii : List ℕ → Type 0
Ascii s = ((i : ℕ) → get_or s i 0 < 256) × (any_in_range 128 255 s ≡ false)

ascii-tail : (b : ℕ) (s : List ℕ) → Ascii (b ∷ s) → Ascii s
ascii-tail b s h = ((λ i. h.0 (suc i)), (any-first 128 255 b s h.1).1)

ascii_drop : (n : ℕ) (s : List ℕ) → Ascii s → Ascii (drop n s)
ascii_drop zero s h = h
ascii_drop (suc n) [] h = h
ascii_drop (suc n) (b ∷ s) h = ascii_drop n s (ascii-tail b s h)

-- a byte of ASCII is a sequence
ascii-first : (b : ℕ) (s : List ℕ) → b < 128 → WellFormed s → WellFormed (b ∷ s)
ascii-first b s h w =
    let e = ascii-sequence b s h in
    more (b ∷ []) s refl (rw e at (sequence-described (b ∷ s) (λ z. omega (arith, e, z)))) w

-- the first bytes are well formed
ascii_take : (n : ℕ) (s : List ℕ) → Ascii s → WellFormed (take n s)
ascii_take zero s h = empty
ascii_take (suc n) [] h = empty
ascii_take (suc n) (b ∷ s) h = ascii-first b (take n s) (not-above b (h.0 0) (any-first 128 255 b s h.1).0) (ascii_take n s (ascii-tail b s h))

module _ (texts : List ℕ) (ascii : Ascii texts) where
  part-fine : (field : ℕ) (p : Part) → or_text field (bytes_of texts p) (Ok tt) ≡ Ok tt
  part-fine field p =
      let s = bytes_of texts p in
      rw (eq-eqb (bad_place s) (length s) (well-formed-whole s (ascii_take p.len (drop p.start texts) (ascii_drop p.start texts ascii))))

  components-fine : (cs : List FirmwareComponent) → fault_from (Ok tt) (components_strings texts cs) ≡ Ok tt
  components-fine [] = refl
  components-fine (c ∷ cs) =
      rw (part-fine firmware_component_name_field c.name, part-fine firmware_component_signature_field c.signature) (components-fine cs)

  pub ascii-firmware : (f : FirmwareInformation) → first_fault (firmware_strings texts f) ≡ Ok tt
  ascii-firmware f =
      let cs = components_strings texts (present f) in
      let ends : List (ℕ × List ℕ) = (locale_field, bytes_of texts f.locale) ∷ (version_name_field, bytes_of texts f.version_name) ∷ [] in
      ap (λ x. fault_from x (cs ++ ends)) (part-fine firmware_name_field f.name) ∙ fault-append (Ok tt) cs ends ∙ ap (λ x. fault_from x ends) (components-fine (present f))
      ∙ ap (or_text version_name_field (bytes_of texts f.version_name)) (part-fine locale_field f.locale) ∙ part-fine version_name_field f.version_name
