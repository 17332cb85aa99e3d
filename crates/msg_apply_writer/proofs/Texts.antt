-- Laws of what is written of a lent text: where its parts lie, and how many bytes there are.
use Prim.Native.Nat.{ℕ, ◌+◌, ◌≤◌}
use mathlib.Core.Path.{◌≡◌, refl, sym, ap, ◌∙◌}
use mathlib.Core.Bool.{false}
use mathlib.Core.List.{List, [], ◌∷◌, ◌++◌, map}
use native.Mathlib.Omega.{arith}
use lib.ListN.{length}
use lib.Dec.{ltb}
use borrow.Author.Tests.{ltb-false}
use Rattle.wire.specs.Bytes.{bit}
use Rattle.wire.proofs.Tests.{or-false}
use Rattle.proto_field.specs.Value.{bytes_of}
use Rattle.proto_writer.specs.Writer.{scalar, text, nested, head_bytes, field_bytes, message_bytes}
use Rattle.proto_writer.proofs.Runs.{message-length, joined_length}
use Rattle.proto_strings.specs.declared.TextFault.{TextFault}
use Rattle.std.specs.Prelude.{⊤, Result, Ok}
use Rattle.proto_strings.specs.Texts.{or_text, fault_from, first_fault}
use Rattle.proto_schema.specs.Schema.{firmware_version_field, firmware_name_field, locale_field, version_name_field, firmware_information_field, restart_required_field}
use Rattle.msg_firmware.specs.declared.component.FirmwareComponent.{FirmwareComponent}
use Rattle.msg_firmware.specs.declared.information.FirmwareInformation.{FirmwareInformation}
use Rattle.msg_component_writer.specs.Component.{outside, bad_component, component_field}
use Rattle.msg_apply_writer.specs.Information.{bad_components, bad_firmware, present, components_strings, firmware_strings, firmware_fields}
use Rattle.msg_firmware.specs.declared.apply.ApplyFirmware.{ApplyFirmware}
use Rattle.msg_apply_writer.specs.Apply.{apply_fields}
use Rattle.proto_writer.proofs.Rooms.{message-append, nested-length}

pub components-fine : (texts : List ℕ) (c : FirmwareComponent) (cs : List FirmwareComponent) → bad_components texts (c ∷ cs) ≡ false
    → (bad_component texts c ≡ false) × (bad_components texts cs ≡ false)
components-fine texts c cs e = or-false (bad_component texts c) (bad_components texts cs) e

-- ---- firmware information that is written
pub record Fine (texts : List ℕ) (f : FirmwareInformation) : Type 0 where
  pub most : f.count ≤ 8
  pub name : outside texts f.name ≡ false
  pub components : bad_components texts (present f) ≡ false
  pub locale : outside texts f.locale ≡ false
  pub version-name : outside texts f.version_name ≡ false

pub firmware-fine : (texts : List ℕ) (f : FirmwareInformation) → bad_firmware texts f ≡ false → Fine texts f
unfolding bad_firmware
firmware-fine texts f e =
    let a = or-false (ltb 8 f.count) _ e in
    let b = or-false (outside texts f.name) _ a.1 in
    let c = or-false (bad_components texts (present f)) _ b.1 in
    let d = or-false (outside texts f.locale) (outside texts f.version_name) c.1 in
    record { most = ltb-false 8 f.count a.0; name = b.0; components = c.0; locale = d.0; version-name = d.1 }

pub firmware-length : (texts : List ℕ) (f : FirmwareInformation) → length (message_bytes (firmware_fields texts f))
    ≡ length (field_bytes (scalar firmware_version_field f.version)) + length (field_bytes (text firmware_name_field (bytes_of texts f.name)))
    + length (message_bytes (map (component_field texts) (present f)))
    + length (field_bytes (text locale_field (bytes_of texts f.locale))) + length (field_bytes (text version_name_field (bytes_of texts f.version_name)))
firmware-length texts f =
    let f₁ = scalar firmware_version_field f.version in
    let f₂ = text firmware_name_field (bytes_of texts f.name) in
    let fs = map (component_field texts) (present f) in
    let f₄ = text locale_field (bytes_of texts f.locale) in
    let f₅ = text version_name_field (bytes_of texts f.version_name) in
    let rest = f₄ ∷ f₅ ∷ [] in
    omega (
      arith,
      message-length f₁ (f₂ ∷ (fs ++ rest)),
      message-length f₂ (fs ++ rest),
      joined_length (message_bytes fs) (message_bytes rest) (message-append fs rest),
      message-length f₄ (f₅ ∷ []),
      message-length f₅ [],
    )

-- ---- the whole message
pub apply-length : (texts : List ℕ) (a : ApplyFirmware) → let l = message_bytes (firmware_fields texts a.firmware_information) in
    length (message_bytes (apply_fields texts a))
    ≡ length (head_bytes firmware_information_field (length l)) + length l + length (field_bytes (scalar restart_required_field (bit a.restart_required)))
apply-length texts a =
    let l = message_bytes (firmware_fields texts a.firmware_information) in
    let f₂ = scalar restart_required_field (bit a.restart_required) in
    omega (arith, message-length (nested firmware_information_field l) (f₂ ∷ []), message-length f₂ [], nested-length firmware_information_field l)

-- ---- strings
-- some, and then others
pub fault-append : (fault : Result ⊤ TextFault) (xs ys : List (ℕ × List ℕ)) → fault_from fault (xs ++ ys) ≡ fault_from (fault_from fault xs) ys
fault-append fault [] ys = refl
fault-append fault (t ∷ xs) ys = fault-append (or_text t.0 t.1 fault) xs ys

-- the strings of firmware information, of which the name is well formed and those of the components are judged
pub strings-rest : (texts : List ℕ) (f : FirmwareInformation) (r : Result ⊤ TextFault) → Ok tt ≡ or_text firmware_name_field (bytes_of texts f.name) (Ok tt)
    → r ≡ first_fault (components_strings texts (present f))
    → fault_from r ((locale_field, bytes_of texts f.locale) ∷ (version_name_field, bytes_of texts f.version_name) ∷ []) ≡ first_fault (firmware_strings texts f)
strings-rest texts f r fine e =
    let cs = components_strings texts (present f) in
    let ends : List (ℕ × List ℕ) = (locale_field, bytes_of texts f.locale) ∷ (version_name_field, bytes_of texts f.version_name) ∷ [] in
    ap (λ x. fault_from x ends) e ∙ sym (fault-append (Ok tt) cs ends) ∙ ap (λ x. fault_from x (cs ++ ends)) fine
