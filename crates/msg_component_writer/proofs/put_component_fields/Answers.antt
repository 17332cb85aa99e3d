use mathlib.Core.List.{[], ◌∷◌}
use native.Mathlib.Omega.{arith}
use Rattle.proto_field.specs.Value.{bytes_of}
use Rattle.proto_writer.specs.Writer.{scalar, text}
use Rattle.proto_schema.specs.Schema.{firmware_component_version_field, firmware_component_name_field, firmware_component_size_field, firmware_component_signature_field}
use Rattle.msg_component_writer.proofs.Inside.{component-fine, component-length}
use Rattle.proto_writer.proofs.Runs.{put-field}
use Rattle.proto_writer.proofs.Rooms.{put_last}
use borrow.Author.Rules.{rules}
use Rattle.msg_component_writer.proofs.put_component_fields.Goals as goal

pub put_scalar-second-requires : goal.put_scalar-second-requires
put_scalar-second-requires c =
    (search rules, omega (arith, c.requires.1, component-length c.args.texts.now c.args.component))

pub put_text_part-third-requires : goal.put_text_part-third-requires
put_text_part-third-requires c =
    (search rules, (component-fine c.args.texts.now c.args.component c.requires.0).0, omega (arith, c.requires.1, component-length c.args.texts.now c.args.component, c.put_scalar-second.ensures.place, c.put_scalar-second.auto.out))

pub put_scalar-fourth-requires : goal.put_scalar-fourth-requires
put_scalar-fourth-requires c =
    (search rules, omega (arith, c.requires.1, component-length c.args.texts.now c.args.component, c.put_scalar-second.ensures.place, c.put_scalar-second.auto.out, c.put_text_part-third.ensures.place, c.put_text_part-third.auto.out))

pub put_text_part-requires : goal.put_text_part-requires
put_text_part-requires c =
    (search rules, (component-fine c.args.texts.now c.args.component c.requires.0).1, omega (arith, c.requires.1, component-length c.args.texts.now c.args.component, c.put_scalar-second.ensures.place, c.put_scalar-second.auto.out, c.put_text_part-third.ensures.place, c.put_text_part-third.auto.out, c.put_scalar-fourth.ensures.place, c.put_scalar-fourth.auto.out))

pub returns : goal.returns
returns c =
    let f₁ = scalar firmware_component_version_field c.args.component.version in
    let f₂ = text firmware_component_name_field (bytes_of c.args.texts.now c.args.component.name) in
    let f₃ = scalar firmware_component_size_field c.args.component.size in
    let f₄ = text firmware_component_signature_field (bytes_of c.args.texts.now c.args.component.signature) in
    put-field f₁ (f₂ ∷ f₃ ∷ f₄ ∷ []) c.put_scalar-second.ensures (put-field f₂ (f₃ ∷ f₄ ∷ []) c.put_text_part-third.ensures (put-field f₃ (f₄ ∷ []) c.put_scalar-fourth.ensures (put_last f₄ c.put_text_part.ensures)))
