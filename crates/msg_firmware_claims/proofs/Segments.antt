-- The round trip of a segment.
use Prim.Native.Nat.{ℕ, ◌+◌, ◌≤◌, ◌<◌, ◌^◌}
use mathlib.Core.Path.{◌≡◌, refl, ap, subst, ◌∙◌}
use mathlib.Core.Bool.{true}
use mathlib.Core.List.{List, [], ◌++◌}
use native.Mathlib.Omega.{arith}
use lib.ListN.{length}
use borrow.Author.Tests.{le-ltb}
use Rattle.wire.specs.Told.{ToldMore, given, refused, WrittenOf}
use Rattle.wire.proofs.Stores.{first-bytes}
use Rattle.proto_field.specs.Unsigned.{unsigned_of}
use Rattle.proto_writer.specs.Writer.{scalar, text, field_bytes, message_bytes}
use Rattle.proto_schema.specs.declared.Schema.TheVariants as Schema
use Rattle.proto_schema.specs.Schema.{role_of, component_name_field, component_offset_field, segment_size_field, segment_signature_field}
use Rattle.proto_reader.specs.Gathered.{nothing, with_scalar, with_text}
use Rattle.proto_reader.specs.Walk.{fields_from}
use Rattle.msg_firmware.specs.Segment.{is_signature, broken_field, segment_of}
use Rattle.proto_strings.specs.Texts.{AllWellFormed}
use Rattle.proto_strings.proofs.Texts.{well-faultless}
use Rattle.msg_segment_writer.specs.Segment.{segment_strings, segment_fields, segment_filled}
use Rattle.msg_segment_writer.proofs.Segments.{segment-clean}
use Rattle.msg_claims.specs.RoundTrip.{Gives, ReadsBack}
use Rattle.msg_claims.proofs.Values.{At, whole, front, behind}
use Rattle.msg_claims.proofs.Fields.{reads_end, reads-scalar, reads-text, text_at, fields_read, text-back}
use Rattle.msg_claims.proofs.RoundTrip.{done}
use Rattle.msg_firmware_claims.specs.RoundTrip.{RefusalWithNumbers, Unsigned32, segment_again, NoFirmwareRefused, SegmentRoundTrip}

pub unsigned-trip : (v : ℕ) → Unsigned32 v → unsigned_of v ≡ v
unsigned-trip v h = omega arith

segment-read : (name : List ℕ) (size : ℕ) (signature s : List ℕ) → AllWellFormed (segment_strings name signature) → Unsigned32 size → is_signature signature ≡ true → length s < 2 ^ 64
    → At s 0 (message_bytes (segment_fields name 0 size signature)) [] → segment_again s ≡ given (name, 0, size, signature)
unfolding segment_of role_of broken_field
segment-read name size signature s well n d lent a =
    let b₁ = field_bytes (text component_name_field name) in
    let b₂ = field_bytes (scalar component_offset_field 0) in
    let b₃ = field_bytes (scalar segment_size_field size) in
    let b₄ = field_bytes (text segment_signature_field signature) in
    let a₂ = behind b₁ (b₂ ++ (b₃ ++ (b₄ ++ []))) a in
    let a₃ = behind b₂ (b₃ ++ (b₄ ++ [])) a₂ in
    let a₄ = behind b₃ (b₄ ++ []) a₃ in
    let p₁ = text_at 0 component_name_field name in
    let p₄ = text_at (0 + length b₁ + length b₂ + length b₃) segment_signature_field signature in
    let g₁ = with_text 0 p₁ nothing in
    let g₂ = with_scalar 0 0 g₁ in
    let g₃ = with_scalar 1 size g₂ in
    let all : fields_from Schema.Segment s 0 ≡ given (with_text 1 p₄ g₃) =
    fields_read Schema.Segment s 0
    (reads-text Schema.Segment lent nothing component_name_field (omega arith) (omega arith) 0 name well.0 refl refl (front b₁ (b₂ ++ (b₃ ++ (b₄ ++ []))) a)
    (reads-scalar Schema.Segment g₁ component_offset_field (omega arith) (omega arith) 0 0 refl (omega arith) refl (front b₂ (b₃ ++ (b₄ ++ [])) a₂)
    (reads-scalar Schema.Segment g₂ segment_size_field (omega arith) (omega arith) 1 size refl (omega arith) refl (front b₃ (b₄ ++ []) a₃)
    (reads-text Schema.Segment lent g₃ segment_signature_field (omega arith) (omega arith) 1 signature well.1.0 refl refl (front b₄ [] a₄)
    (reads_end (done b₄ a₄)))))) in
    rw (
      all,
      text-back segment_signature_field signature (front b₄ [] a₄),
      d,
      text-back component_name_field name (front b₁ (b₂ ++ (b₃ ++ (b₄ ++ []))) a),
      unsigned-trip size n,
      text-back segment_signature_field signature (front b₄ [] a₄),
    )

pub segment-round-trip : SegmentRoundTrip
unfolding SegmentRoundTrip segment_filled broken_field
segment-round-trip name size signature out t =
    let bytes = message_bytes (segment_fields name 0 size signature) in
    let room : length bytes ≤ length out = omega (arith, t.room) in
    subst (λ (w : WrittenOf (ℕ × List ℕ) ℕ). ReadsBack w segment_again (name, 0, size, signature))
    (segment-clean name 0 size signature out (well-faultless (segment_strings name signature) t.strings) refl)
    (rw (t.digits, le-ltb (length out) (length bytes) room)
    (ap segment_again (first-bytes out bytes room)
    ∙ segment-read name size signature bytes t.strings t.number t.digits (omega (arith, t.lent)) (whole bytes)))

-- what refuses reads nothing back
pub none-refused : NoFirmwareRefused
unfolding NoFirmwareRefused
none-refused = (λ n out read a h. h, λ w n a h. by-told n a w.told h)
  where
    by-told : (n : RefusalWithNumbers) (a : List ℕ) (t : ToldMore ℕ) → Gives t (λ k. ◌≡◌ {A = ToldMore (List ℕ)} (refused n) (given a)) → ⊥
    by-told n a (given k) h = let z : ◌≡◌ {A = ℕ} 0 1 = cc in omega arith
    by-told n a (refused k) h = h
