-- Five fields, each at the place after the one before; `firmware-length` says that all fit.
use mathlib.Core.List.{[], ◌∷◌, ◌++◌, map}
use Rattle.proto_field.specs.Value.{bytes_of}
use Rattle.proto_writer.specs.Writer.{scalar, text}
use Rattle.proto_schema.specs.Schema.{firmware_version_field, firmware_name_field, locale_field, version_name_field}
use Rattle.msg_component_writer.specs.Component.{component_field}
use Rattle.msg_apply_writer.specs.Information.{present}
use native.Mathlib.Omega.{arith}
use Rattle.msg_apply_writer.proofs.Texts.{firmware-fine, firmware-length}
use Rattle.proto_writer.proofs.Runs.{put-field}
use Rattle.proto_writer.proofs.Rooms.{put-join, put_last}
use borrow.Author.Rules.{rules}
use Rattle.msg_apply_writer.proofs.information.put_firmware.Goals as goal

pub put_scalar-second-requires : goal.put_scalar-second-requires
put_scalar-second-requires c =
    (search rules, omega (arith, c.requires.1, firmware-length c.args.texts.now c.args.information))

pub put_text_part-third-requires : goal.put_text_part-third-requires
put_text_part-third-requires c =
    (search rules, (firmware-fine c.args.texts.now c.args.information c.requires.0).name, omega (arith, c.requires.1, firmware-length c.args.texts.now c.args.information, c.put_scalar-second.ensures.place, c.put_scalar-second.auto.out))

pub shared_ref_as_front-put_components : goal.shared_ref_as_front-put_components
shared_ref_as_front-put_components c = (firmware-fine c.args.texts.now c.args.information c.requires.0).most

pub put_components-fourth-requires : goal.put_components-fourth-requires
put_components-fourth-requires c =
    let f = firmware-fine c.args.texts.now c.args.information c.requires.0 in
    (f.components, omega (arith, c.requires.1, firmware-length c.args.texts.now c.args.information, c.put_scalar-second.ensures.place, c.put_scalar-second.auto.out, c.put_text_part-third.ensures.place, c.put_text_part-third.auto.out))

pub put_text_part-fifth-requires : goal.put_text_part-fifth-requires
put_text_part-fifth-requires c =
    (search rules, (firmware-fine c.args.texts.now c.args.information c.requires.0).locale, omega (arith, c.requires.1, firmware-length c.args.texts.now c.args.information, c.put_scalar-second.ensures.place, c.put_scalar-second.auto.out, c.put_text_part-third.ensures.place, c.put_text_part-third.auto.out, c.put_components-fourth.ensures.place, c.put_components-fourth.auto.out))

pub put_text_part-requires : goal.put_text_part-requires
put_text_part-requires c =
    (search rules, (firmware-fine c.args.texts.now c.args.information c.requires.0).version-name, omega (arith, c.requires.1, firmware-length c.args.texts.now c.args.information, c.put_scalar-second.ensures.place, c.put_scalar-second.auto.out, c.put_text_part-third.ensures.place, c.put_text_part-third.auto.out, c.put_components-fourth.ensures.place, c.put_components-fourth.auto.out, c.put_text_part-fifth.ensures.place, c.put_text_part-fifth.auto.out))

pub returns : goal.returns
returns c =
    let i = c.args.information in
    let f₁ = scalar firmware_version_field i.version in
    let f₂ = text firmware_name_field (bytes_of c.args.texts.now i.name) in
    let fs = map (component_field c.args.texts.now) (present i) in
    let f₄ = text locale_field (bytes_of c.args.texts.now i.locale) in
    let f₅ = text version_name_field (bytes_of c.args.texts.now i.version_name) in
    put-field f₁ (f₂ ∷ (fs ++ (f₄ ∷ f₅ ∷ []))) c.put_scalar-second.ensures (put-field f₂ (fs ++ (f₄ ∷ f₅ ∷ [])) c.put_text_part-third.ensures
    (put-join fs (f₄ ∷ f₅ ∷ []) c.put_components-fourth.ensures (put-field f₄ (f₅ ∷ []) c.put_text_part-fifth.ensures (put_last f₅ c.put_text_part.ensures))))
