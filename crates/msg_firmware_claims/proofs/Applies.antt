-- The round trip of ApplyFirmware.
use Prim.Native.Nat.{ℕ, ◌+◌, ◌≤◌, ◌<◌, ◌^◌}
use mathlib.Core.Path.{◌≡◌, refl, sym, ap, ◌∙◌}
use mathlib.Core.Bool.{Bool, true, false}
use mathlib.Core.List.{List, [], ◌∷◌, ◌++◌, append-nil, map}
use native.Mathlib.Nat.{zero-add}
use native.Mathlib.Omega.{arith}
use lib.ListN.{length, take, replicate, length-take}
use lib.Seq.{length-take-le}
use borrow.Author.Tests.{le-ltb}
use Rattle.wire.specs.Bytes.{bit}
use Rattle.wire.specs.Told.{given}
use Rattle.wire.proofs.Stores.{first-bytes}
use Rattle.proto_field.specs.declared.value.Part.{Part}
use Rattle.proto_field.specs.Value.{bytes_of}
use Rattle.proto_writer.specs.Writer.{scalar, text, part_bytes, field_bytes, message_bytes}
use Rattle.proto_schema.specs.declared.Schema.TheVariants as Schema
use Rattle.proto_schema.specs.declared.Role.TheVariants as Role
use Rattle.proto_schema.specs.Schema.{role_of, firmware_information_field, restart_required_field, firmware_version_field, firmware_name_field, locale_field, version_name_field}
use Rattle.proto_reader.specs.Gathered.{most_repeated, nothing, with_scalar, with_text, with_member}
use Rattle.proto_reader.specs.Walk.{judged, fields_from}
use Rattle.msg_firmware.specs.declared.component.FirmwareComponent.{FirmwareComponent}
use Rattle.msg_firmware.specs.declared.information.FirmwareInformation.{FirmwareInformation}
use Rattle.msg_firmware.specs.declared.apply.ApplyFirmware.{ApplyFirmware}
use Rattle.msg_firmware.specs.Component.{no_component}
use Rattle.proto_strings.specs.Texts.{AllWellFormed}
use Rattle.msg_component_writer.specs.Component.{outside, bad_component, component_field}
use Rattle.msg_firmware.specs.Information.{parts_from, placed, components_from, firmware_from}
use Rattle.msg_apply_writer.specs.Information.{present, bad_components, bad_firmware, components_strings, firmware_strings, firmware_fields}
use Rattle.msg_firmware.specs.Apply.{is_true, firmware_in, apply_of}
use Rattle.msg_apply_writer.specs.Apply.{apply_fields, apply_written}
use Rattle.proto_writer.proofs.Rooms.{message-append}
use Rattle.msg_firmware.proofs.Parts.{parts-end}
use Rattle.msg_claims.proofs.Values.{At, whole, front, behind}
use Rattle.msg_claims.proofs.Fields.{reads_end, reads-scalar, reads-text, reads-member, part_at, part-there, part_cut, text_at, fields_read, text-back}
use Rattle.msg_claims.proofs.RoundTrip.{texts-back, done}
use Rattle.msg_firmware_claims.specs.RoundTrip.{firmware_contents, apply_contents, apply_again, ComponentsWritable, FirmwareWritable, ApplyRoundTrip}
use Rattle.msg_firmware_claims.proofs.Segments.{unsigned-trip}
use Rattle.msg_firmware_claims.proofs.Components.{components_bytes, parts_at, components_at, components-count, with_counted, parts-scalar, parts-text, reads-components, parts-components, components-in, components-contents}

-- ---- firmware information: its fields, and the components among them
module _ (texts : List ℕ) (f : FirmwareInformation) where
  abbrev version_bytes : List ℕ
  version_bytes = field_bytes (scalar firmware_version_field f.version)

  abbrev name_bytes : List ℕ
  name_bytes = field_bytes (text firmware_name_field (bytes_of texts f.name))

  abbrev list_bytes : List ℕ
  list_bytes = components_bytes texts (present f)

  abbrev locale_bytes : List ℕ
  locale_bytes = field_bytes (text locale_field (bytes_of texts f.locale))

  abbrev version_name_bytes : List ℕ
  version_name_bytes = field_bytes (text version_name_field (bytes_of texts f.version_name))

  -- where they stand
  module _ (at : ℕ) where
    abbrev name_place : ℕ
    name_place = at + length version_bytes

    abbrev list_place : ℕ
    list_place = name_place + length name_bytes

    abbrev locale_place : ℕ
    locale_place = list_place + length list_bytes

    abbrev version_name_place : ℕ
    version_name_place = locale_place + length locale_bytes

    -- the information that is read there
    abbrev firmware_at : FirmwareInformation
    firmware_at =
        record {
          version = f.version;
          name = text_at name_place firmware_name_field (bytes_of texts f.name);
          components = placed (components_at texts list_place (present f));
          count = length (present f);
          locale = text_at locale_place locale_field (bytes_of texts f.locale);
          version_name = text_at version_name_place version_name_field (bytes_of texts f.version_name);
        }

  -- each of them stands at its place
  record Laid (s : List ℕ) (at : ℕ) (rest : List ℕ) : Type 0 where
    version : At s at version_bytes ((name_bytes ++ (list_bytes ++ (locale_bytes ++ (version_name_bytes ++ [])))) ++ rest)
    name : At s (name_place at) name_bytes ((list_bytes ++ (locale_bytes ++ (version_name_bytes ++ []))) ++ rest)
    list : At s (list_place at) list_bytes ((locale_bytes ++ (version_name_bytes ++ [])) ++ rest)
    locale : At s (locale_place at) locale_bytes ((version_name_bytes ++ []) ++ rest)
    end : At s (version_name_place at) (version_name_bytes ++ []) rest

  laid : {s : List ℕ} {at : ℕ} {rest : List ℕ} → At s at (message_bytes (firmware_fields texts f)) rest → Laid s at rest
  laid {s} {at} {rest} a =
      let t₄ = version_name_bytes ++ [] in
      let t₃ = locale_bytes ++ t₄ in
      let t₂ = list_bytes ++ t₃ in
      let t₁ = name_bytes ++ t₂ in
      let strings = text locale_field (bytes_of texts f.locale) ∷ text version_name_field (bytes_of texts f.version_name) ∷ [] in
      let b : At s at (version_bytes ++ t₁) rest =
      record { there = a.there ∙ ap (λ l. (version_bytes ++ (name_bytes ++ l)) ++ rest) (sym (message-append (map (component_field texts) (present f)) strings)) } in
      let b₁ = behind version_bytes t₁ b in
      let b₂ = behind name_bytes t₂ b₁ in
      let b₃ = behind list_bytes t₃ b₂ in
      record { version = front version_bytes t₁ b; name = front name_bytes t₂ b₁; list = front list_bytes t₃ b₂; locale = front locale_bytes t₄ b₃; end = behind locale_bytes t₄ b₃ }

  counted : FirmwareWritable texts f → length (present f) ≤ most_repeated
  counted t = omega (arith, length-take f.count f.components, t.most)

  module _ (t : FirmwareWritable texts f) {s : List ℕ} {at : ℕ} (lent : length s < 2 ^ 64) where
    fields-there : Laid s at [] → fields_from Schema.Firmware s at ≡ given
        (with_text 2 (text_at (version_name_place at) version_name_field (bytes_of texts f.version_name))
        (with_text 1 (text_at (locale_place at) locale_field (bytes_of texts f.locale))
        (with_counted (length (present f)) (with_text 0 (text_at (name_place at) firmware_name_field (bytes_of texts f.name)) (with_scalar 0 f.version nothing)))))
    unfolding role_of
    fields-there l =
        let g₁ = with_scalar 0 f.version nothing in
        let g₂ = with_text 0 (text_at (name_place at) firmware_name_field (bytes_of texts f.name)) g₁ in
        let g₃ = with_counted (length (present f)) g₂ in
        let g₄ = with_text 1 (text_at (locale_place at) locale_field (bytes_of texts f.locale)) g₃ in
        fields_read Schema.Firmware s at
        (reads-scalar Schema.Firmware nothing firmware_version_field (omega arith) (omega arith) 0 f.version refl (omega (arith, t.number)) refl l.version
        (reads-text Schema.Firmware lent g₁ firmware_name_field (omega arith) (omega arith) 0 (bytes_of texts f.name) t.strings.1.0 refl refl l.name
        (reads-components texts lent (list_place at) _ (present f) g₂ (omega (arith, counted t)) l.list
        (reads-text Schema.Firmware lent g₃ locale_field (omega arith) (omega arith) 1 (bytes_of texts f.locale) t.strings.1.1.0 refl refl l.locale
        (reads-text Schema.Firmware lent g₄ version_name_field (omega arith) (omega arith) 2 (bytes_of texts f.version_name) t.strings.1.1.1.0 refl refl (front version_name_bytes [] l.end)
        (reads_end (done version_name_bytes l.end)))))))

    parts-there : Laid s at [] → parts_from s at ≡ parts_at texts (list_place at) (present f)
    parts-there l =
        parts-scalar firmware_version_field (omega arith) (omega arith) refl f.version (omega (arith, t.number)) l.version
        ∙ parts-text firmware_name_field (omega arith) (omega arith) refl (bytes_of texts f.name) lent l.name
        ∙ parts-components texts lent (list_place at) _ (present f) l.list
        ∙ ap (λ ps. parts_at texts (list_place at) (present f) ++ ps)
        (parts-text locale_field (omega arith) (omega arith) refl (bytes_of texts f.locale) lent l.locale
        ∙ parts-text version_name_field (omega arith) (omega arith) refl (bytes_of texts f.version_name) lent (front version_name_bytes [] l.end)
        ∙ parts-end s (version_name_place at + length version_name_bytes) (done version_name_bytes l.end))
        ∙ append-nil (parts_at texts (list_place at) (present f))

    firmware-from : Laid s at [] → firmware_from s at ≡ given (firmware_at at)
    unfolding firmware_from components_from
    firmware-from l =
        rw (fields-there l, parts-there l, components-in texts lent (list_place at) _ (present f) t.components l.list, unsigned-trip f.version t.number, zero-add (length (present f)))

    firmware-contents : {rest : List ℕ} → Laid s at rest → firmware_contents s (firmware_at at) ≡ firmware_contents texts f
    firmware-contents l =
        let read = components_at texts (list_place at) (present f) in
        let many : length read ≡ length (present f) = components-count texts (list_place at) (present f) in
        let there : take (length (present f)) (placed read) ≡ read =
        ap (λ n. take n (placed read)) (sym many) ∙ first-bytes (replicate most_repeated no_component) read (omega (arith, counted t)) in
        rw (
          there,
          components-contents texts lent (list_place at) _ (present f) l.list,
          text-back firmware_name_field (bytes_of texts f.name) l.name,
          text-back locale_field (bytes_of texts f.locale) l.locale,
          text-back version_name_field (bytes_of texts f.version_name) (front version_name_bytes [] l.end),
          length-take-le f.count f.components t.there,
        )

-- ---- the message
bool-trip : (b : Bool) → is_true (bit b) ≡ b
bool-trip true = refl
bool-trip false = refl

bool_small : (b : Bool) → bit b < 2 ^ 64
bool_small true = omega arith
bool_small false = omega arith

apply-read : (texts : List ℕ) (a : ApplyFirmware) (s : List ℕ) → FirmwareWritable texts a.firmware_information → length s < 2 ^ 64
    → At s 0 (message_bytes (apply_fields texts a)) [] → apply_again s ≡ given (apply_contents texts a)
unfolding apply_of firmware_in role_of judged field_bytes
apply-read texts a s t lent there =
    let f = a.firmware_information in
    let v = bit a.restart_required in
    let inner = message_bytes (firmware_fields texts f) in
    let b₁ = part_bytes firmware_information_field inner in
    let b₂ = field_bytes (scalar restart_required_field v) in
    let c = behind b₁ (b₂ ++ []) there in
    let p = part_at 0 firmware_information_field inner in
    let g = with_member firmware_information_field p nothing in
    let all : fields_from Schema.Apply s 0 ≡ given (with_scalar 0 v g) =
    fields_read Schema.Apply s 0
    (reads-member Schema.Apply lent nothing firmware_information_field (omega arith) (omega arith) Role.Nested inner refl refl refl (front b₁ (b₂ ++ []) there)
    (reads-scalar Schema.Apply g restart_required_field (omega arith) (omega arith) 0 v refl (bool_small a.restart_required) refl (front b₂ [] c)
    (reads_end (done b₂ c)))) in
    let own = laid texts f (part_cut firmware_information_field inner (front b₁ (b₂ ++ []) there)) in
    let short : length (take (p.start + p.len) s) < 2 ^ 64 = omega (arith, length-take (p.start + p.len) s) in
    rw (all, firmware-from texts f t short own, bool-trip a.restart_required)
    (ap (λ x. given (a.restart_required, x)) (firmware-contents texts f t lent (laid texts f (part-there firmware_information_field inner (front b₁ (b₂ ++ []) there)))))

-- ---- arguments in range are not refused
outside-fine : (texts : List ℕ) (p : Part) → p.start + p.len ≤ length texts → outside texts p ≡ false
unfolding outside
outside-fine texts p h = le-ltb (length texts) (p.start + p.len) h

components-fine : (texts : List ℕ) (cs : List FirmwareComponent) → ComponentsWritable texts cs → bad_components texts cs ≡ false
unfolding bad_component
components-fine texts [] t = refl
components-fine texts (c ∷ cs) t = rw (outside-fine texts c.name t.0.2.0.0, outside-fine texts c.signature t.0.2.0.1.0, components-fine texts cs t.1)

firmware-fine : (texts : List ℕ) (f : FirmwareInformation) → FirmwareWritable texts f → bad_firmware texts f ≡ false
unfolding bad_firmware
firmware-fine texts f t =
    rw (
      le-ltb most_repeated f.count (omega (arith, t.most)),
      outside-fine texts f.name t.strings.0.0,
      components-fine texts (present f) t.components,
      outside-fine texts f.locale t.strings.0.1.0,
      outside-fine texts f.version_name t.strings.0.1.1.0,
    )

-- their strings are well formed
components-strings : (texts : List ℕ) (cs : List FirmwareComponent) (others : List (ℕ × List ℕ)) → ComponentsWritable texts cs → AllWellFormed others → AllWellFormed (components_strings texts cs ++ others)
components-strings texts [] others t w = w
components-strings texts (c ∷ cs) others t w = (t.0.2.1.0, (t.0.2.1.1.0, components-strings texts cs others t.1 w))

firmware-strings : (texts : List ℕ) (f : FirmwareInformation) → FirmwareWritable texts f → AllWellFormed (firmware_strings texts f)
firmware-strings texts f t =
    (t.strings.1.0, components-strings texts (present f) ((locale_field, bytes_of texts f.locale) ∷ (version_name_field, bytes_of texts f.version_name) ∷ []) t.components (t.strings.1.1.0, (t.strings.1.1.1.0, tt)))

pub apply-round-trip : ApplyRoundTrip
unfolding ApplyRoundTrip apply_written
apply-round-trip a texts out t =
    let fields = apply_fields texts a in
    texts-back (bad_firmware texts a.firmware_information) (firmware_strings texts a.firmware_information) fields out apply_again (apply_contents texts a)
    (firmware-fine texts a.firmware_information t.firmware) (firmware-strings texts a.firmware_information t.firmware)
    (omega (arith, t.room)) (apply-read texts a (message_bytes fields) t.firmware (omega (arith, t.room, t.lent)) (whole (message_bytes fields)))
