-- The row of an ApplyFirmware: the message that it stands for, and the longest that this can be.
use Prim.Native.Nat.{ℕ, zero, suc, ◌+◌, ◌*◌, ◌≤◌, ◌^◌, zero-le}
use mathlib.Core.Path.{◌≡◌, refl, ap}
use mathlib.Core.Bool.{false}
use mathlib.Core.List.{List, [], ◌∷◌, ◌++◌, map}
use native.Mathlib.Omega.{arith}
use lib.ListN.{length, take, drop, get_or}
use borrow.Author.Tests.{lt-ltb, le-ltb}
use Rattle.wire.specs.Bytes.{bit}
use Rattle.proto_field.specs.declared.value.Part.{Part}
use Rattle.proto_field.specs.Value.{bytes_of}
use Rattle.proto_field.specs.Tag.{varint_type, length_type}
use Rattle.proto_writer.specs.Writer.{scalar, text, nested, tag_bytes, field_bytes, message_bytes}
use Rattle.proto_writer.proofs.Runs.{message-length}
use Rattle.proto_schema.specs.Schema.{firmware_information_field, restart_required_field, firmware_version_field, firmware_name_field, components_field, locale_field, version_name_field, firmware_component_version_field, firmware_component_name_field, firmware_component_size_field, firmware_component_signature_field}
use Rattle.msg_firmware.specs.declared.component.FirmwareComponent.{FirmwareComponent}
use Rattle.proto_strings.specs.Texts.{AllWellFormed}
use Rattle.msg_component_writer.specs.Component.{outside, bad_component, component_fields, component_field}
use Rattle.msg_apply_writer.specs.Information.{bad_components, bad_firmware, present, components_strings, firmware_strings, firmware_fields}
use Rattle.msg_apply_writer.specs.Apply.{apply_fields}
use Rattle.msg_component_writer.proofs.Inside.{component-length}
use Rattle.msg_apply_writer.proofs.Texts.{firmware-length}
use Rattle.msg_firmware_claims.specs.RoundTrip.{Unsigned32}
use Rattle.c_firmware_rows.specs.More.{is_wide}
use Rattle.c_firmware_rows.specs.Apply.{component_at, components_at, apply_at, wide_at, any_wide, bad_row}
use Rattle.c_claims.specs.SizesSuffice.{LiesAt, ComponentsFit, strings_from, RowFits, strings_of, apply_size}
use Rattle.c_claims.proofs.Sizes.{scalar-most, text-most, nested-most, tag_small}

-- ---- numbers of 32 bits
pub not_wide : (n : ℕ) → Unsigned32 n → is_wide n ≡ false
unfolding is_wide
not_wide n h = rw (lt-ltb n (2 ^ 32) (omega arith))

-- ---- a row in range is one of a message
module _ (texts row : List ℕ) where
  lies : (at : ℕ) → LiesAt texts row at → outside texts (record { start = get_or row at 0; len = get_or row (at + 1) 0 }) ≡ false
  unfolding outside
  lies at h = le-ltb (length texts) (get_or row at 0 + get_or row (at + 1) 0) h.0

  none-wide : (n at : ℕ) → ComponentsFit n texts row at → any_wide n row at ≡ false
  unfolding wide_at
  none-wide zero at h = refl
  none-wide (suc n) at h = rw (not_wide (get_or row at 0) h.0.0, not_wide (get_or row (at + 3) 0) h.0.2, none-wide n (at + 6) h.1)

  none-outside : (n at : ℕ) → ComponentsFit n texts row at → bad_components texts (components_at n row at) ≡ false
  unfolding bad_component component_at
  none-outside zero at h = refl
  none-outside (suc n) at h = rw (lies (at + 1) h.0.1, lies (at + 4) h.0.3, none-outside n (at + 6) h.1)

  strings-behind : (n at : ℕ) (others : List (ℕ × List ℕ)) → ComponentsFit n texts row at → AllWellFormed others → AllWellFormed (components_strings texts (components_at n row at) ++ others)
  unfolding component_at
  strings-behind zero at others h w = w
  strings-behind (suc n) at others h w = (h.0.1.1, (h.0.3.1, strings-behind n (at + 6) others h.1 w))

  -- the first of the eight
  first_of : (n m at : ℕ) → n ≤ m → take n (components_at m row at) ≡ components_at n row at
  first_of zero m at h = refl
  first_of (suc n) zero at h = absurd (omega arith)
  first_of (suc n) (suc m) at h = ap (λ (cs : List FirmwareComponent). component_at row at ∷ cs) (first_of n m (at + 6) (omega arith))

  module _ (h : RowFits texts row) where
    pub row_fine : bad_row row ≡ false
    unfolding bad_row
    row_fine =
        rw (
          le-ltb 1 (get_or row 0 0) h.restart,
          not_wide (get_or row 1 0) h.version,
          le-ltb 8 (get_or row 8 0) h.most,
          none-wide (get_or row 8 0) 9 h.components,
        )

    there : take (get_or row 8 0) (components_at 8 row 9) ≡ components_at (get_or row 8 0) row 9
    there = first_of (get_or row 8 0) 8 9 h.most

    pub firmware-fine : bad_firmware texts (apply_at row).firmware_information ≡ false
    unfolding bad_firmware apply_at
    firmware-fine =
        rw (
          le-ltb 8 (get_or row 8 0) h.most,
          lies 2 h.name,
          there,
          none-outside (get_or row 8 0) 9 h.components,
          lies 4 h.locale,
          lies 6 h.version-name,
        )

    -- its strings are well formed
    pub strings-fine : AllWellFormed (firmware_strings texts (apply_at row).firmware_information)
    unfolding apply_at
    strings-fine =
        rw there
        (h.name.1, strings-behind (get_or row 8 0) 9 _ h.components (h.locale.1, (h.version-name.1, tt)))

-- ---- the longest that it can be
taken : (n : ℕ) (l : List ℕ) → length (take n l) ≤ n
taken zero l = zero-le
taken (suc n) [] = omega arith
taken (suc n) (x ∷ l) = omega (arith, taken n l)

string-most : (field : ℕ) (texts : List ℕ) (p : Part) → length (field_bytes (text field (bytes_of texts p))) ≤ length (tag_bytes field length_type) + 10 + p.len
string-most field texts p = omega (arith, text-most field (bytes_of texts p), taken p.len (drop p.start texts))

component-most : (texts : List ℕ) (c : FirmwareComponent) → length (field_bytes (component_field texts c)) ≤ 55 + c.name.len + c.signature.len
component-most texts c =
    omega (
      arith,
      nested-most components_field (message_bytes (component_fields texts c)),
      tag_small components_field length_type refl,
      component-length texts c,
      scalar-most firmware_component_version_field c.version,
      tag_small firmware_component_version_field varint_type refl,
      string-most firmware_component_name_field texts c.name,
      tag_small firmware_component_name_field length_type refl,
      scalar-most firmware_component_size_field c.size,
      tag_small firmware_component_size_field varint_type refl,
      string-most firmware_component_signature_field texts c.signature,
      tag_small firmware_component_signature_field length_type refl,
    )

module _ (texts row : List ℕ) where
  components-most : (n at : ℕ) → length (message_bytes (map (component_field texts) (components_at n row at))) ≤ 55 * n + strings_from n row at
  unfolding component_at
  components-most zero at = omega arith
  components-most (suc n) at =
      let c = component_at row at in
      let name : c.name.len ≡ get_or row (at + 2) 0 = (let e : at + 1 + 1 ≡ at + 2 = omega arith in ap (λ (x : ℕ). get_or row x 0) e) in
      let signature : c.signature.len ≡ get_or row (at + 5) 0 = (let e : at + 4 + 1 ≡ at + 5 = omega arith in ap (λ (x : ℕ). get_or row x 0) e) in
      omega (
        arith,
        message-length (component_field texts c) (map (component_field texts) (components_at n row (at + 6))),
        component-most texts c,
        name,
        signature,
        components-most n (at + 6),
      )

  pub apply-most : RowFits texts row → length (message_bytes (apply_fields texts (apply_at row))) ≤ apply_size (get_or row 8 0) (strings_of row)
  unfolding apply_at
  apply-most h =
      let a = apply_at row in
      let f = a.firmware_information in
      let inner = message_bytes (firmware_fields texts f) in
      let restart = scalar restart_required_field (bit a.restart_required) in
      let listed : length (message_bytes (map (component_field texts) (present f))) ≤ 55 * get_or row 8 0 + strings_from (get_or row 8 0) row 9 =
      rw (there texts row h) (components-most (get_or row 8 0) 9)
      in
      omega (
        arith,
        message-length (nested firmware_information_field inner) (restart ∷ []),
        message-length restart [],
        nested-most firmware_information_field inner,
        tag_small firmware_information_field length_type refl,
        scalar-most restart_required_field (bit a.restart_required),
        tag_small restart_required_field varint_type refl,
        firmware-length texts f,
        scalar-most firmware_version_field f.version,
        tag_small firmware_version_field varint_type refl,
        string-most firmware_name_field texts f.name,
        tag_small firmware_name_field length_type refl,
        listed,
        string-most locale_field texts f.locale,
        tag_small locale_field length_type refl,
        string-most version_name_field texts f.version_name,
        tag_small version_name_field length_type refl,
      )
