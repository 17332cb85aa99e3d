use mathlib.Core.Path.{refl}
use mathlib.Core.List.{[], ◌∷◌}
use native.Mathlib.Omega.{arith}
use Rattle.proto_writer.specs.Writer.{scalar, text}
use Rattle.proto_writer.proofs.Runs.{put-field, scalar-none}
use Rattle.proto_schema.specs.Schema.{component_name_field, component_offset_field, segment_size_field, segment_signature_field}
use Rattle.proto_writer.proofs.Rooms.{put-skip, put_last}
use Rattle.msg_segment_writer.proofs.Segments.{segment-length}
use borrow.Author.Rules.{rules}
use Rattle.msg_segment_writer.proofs.put_segment.Goals as goal

pub put_text-second-requires : goal.put_text-second-requires
put_text-second-requires c = (search rules, omega (arith, c.requires, segment-length c.args.component_name.now c.args.segment_size c.args.segment_signature.now))

pub put_scalar-third-requires : goal.put_scalar-third-requires
put_scalar-third-requires c =
    (search rules, omega (arith, c.requires, segment-length c.args.component_name.now c.args.segment_size c.args.segment_signature.now, c.put_text-second.ensures.place, c.put_text-second.auto.out))

pub put_text-requires : goal.put_text-requires
put_text-requires c =
    (search rules, omega (arith, c.requires, segment-length c.args.component_name.now c.args.segment_size c.args.segment_signature.now, c.put_text-second.ensures.place, c.put_text-second.auto.out, c.put_scalar-third.ensures.place, c.put_scalar-third.auto.out))

pub returns : goal.returns
returns c =
    let f₁ = text component_name_field c.args.component_name.now in
    let f₂ = scalar component_offset_field 0 in
    let f₃ = scalar segment_size_field c.args.segment_size in
    let f₄ = text segment_signature_field c.args.segment_signature.now in
    put-field f₁ (f₂ ∷ f₃ ∷ f₄ ∷ []) c.put_text-second.ensures (put-skip f₂ (f₃ ∷ f₄ ∷ []) (scalar-none component_offset_field 0 refl) (put-field f₃ (f₄ ∷ []) c.put_scalar-third.ensures (put_last f₄ c.put_text.ensures)))
