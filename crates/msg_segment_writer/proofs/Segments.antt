-- Laws of what the writer of a segment tells and leaves.
use Prim.Native.Nat.{ℕ, ◌+◌, ◌≤◌, ◌<◌}
use mathlib.Core.Path.{◌≡◌, refl, sym, ap, ◌∙◌}
use mathlib.Core.List.{List, [], ◌∷◌}
use native.Mathlib.Omega.{arith}
use lib.ListN.{length}
use lib.Seq.{sets}
use borrow.Author.Tests.{lt-ltb, le-ltb, eq-eqb, ne_eqb}
use Rattle.wire.specs.Told.{given, refused, written, WrittenOf}
use Rattle.proto_strings.specs.declared.TextFault.{TextFault}
use Rattle.std.specs.Prelude.{⊤, Result, Ok, Err}
use Rattle.proto_strings.specs.Texts.{why_of_fault, first_fault, faulted}
use Rattle.wire.specs.Put.{Put}
use Rattle.proto_writer.specs.Writer.{scalar, text, field_bytes, message_bytes}
use Rattle.proto_writer.proofs.Runs.{four-length, scalar-none}
use Rattle.proto_schema.specs.Schema.{component_name_field, component_offset_field, segment_size_field, segment_signature_field}
use Rattle.msg_firmware.specs.Segment.{broken_field}
use Rattle.msg_segment_writer.specs.Segment.{segment_strings, segment_fields, segment_filled, segment_written}
use Rattle.msg_firmware.proofs.Segments.{offset-none}

pub segment-length : (name : List ℕ) (size : ℕ) (signature : List ℕ) → length (message_bytes (segment_fields name 0 size signature))
    ≡ length (field_bytes (text component_name_field name)) + length (field_bytes (scalar segment_size_field size)) + length (field_bytes (text segment_signature_field signature))
segment-length name size signature =
    omega (
      arith,
      four-length (text component_name_field name) (scalar component_offset_field 0) (scalar segment_size_field size) (text segment_signature_field signature),
      ap length (scalar-none component_offset_field 0 refl),
    )

-- ---- the writer, by the broken field
module _ (name : List ℕ) (offset size : ℕ) (signature out : List ℕ) (n : ℕ) (is : n ≡ broken_field offset signature) where
  pub segment-broken : (n ≡ 0 → ⊥) → written {A = ℕ} (refused (50, n ∷ [])) out ≡ segment_filled name offset size signature out
  unfolding segment_filled
  segment-broken h = rw (← is, ne_eqb n 0 h)

  module _ (none : n ≡ 0) where
    same : message_bytes (segment_fields name 0 size signature) ≡ message_bytes (segment_fields name offset size signature)
    same = ap (λ x. message_bytes (segment_fields name x size signature)) (sym (offset-none offset signature (sym is ∙ none)))

    pub segment-short : length out < length (message_bytes (segment_fields name 0 size signature)) → written {A = ℕ} (refused (14, [])) out ≡ segment_filled name offset size signature out
    unfolding segment_filled
    segment-short h = rw (← is, eq-eqb n 0 none, lt-ltb (length out) (length (message_bytes (segment_fields name offset size signature))) (rw (sym same) h))

    pub segment-wrote : {m : ℕ} {l : List ℕ} → length (message_bytes (segment_fields name 0 size signature)) ≤ length out → Put out 0 (message_bytes (segment_fields name 0 size signature)) m l
        → written (given m) l ≡ segment_filled name offset size signature out
    unfolding segment_filled
    segment-wrote {m} {l} h p =
        let e : m ≡ length (message_bytes (segment_fields name offset size signature)) = omega (arith, p.place, ap length same) in
        let q : l ≡ sets out 0 (message_bytes (segment_fields name offset size signature)) = p.stored ∙ ap (sets out 0) same in
        rw (← is, eq-eqb n 0 none, le-ltb (length out) (length (message_bytes (segment_fields name offset size signature))) (rw (sym same) h), e, q)

-- ---- the writer, by its strings
module _ (name : List ℕ) (offset size : ℕ) (signature out : List ℕ) where
  by-fault : (f : Result ⊤ TextFault) → first_fault (segment_strings name signature) ≡ f → segment_written name offset size signature out ≡ faulted f out (segment_filled name offset size signature out)
  unfolding segment_written
  by-fault f e = ap (λ x. faulted x out (segment_filled name offset size signature out)) e

  pub segment-faulted : (fault : TextFault) → first_fault (segment_strings name signature) ≡ Err fault → written {A = ℕ} (refused (why_of_fault fault)) out ≡ segment_written name offset size signature out
  segment-faulted fault e = sym (by-fault (Err fault) e)

  pub segment-clean : first_fault (segment_strings name signature) ≡ Ok tt → {w : WrittenOf (ℕ × List ℕ) ℕ} → w ≡ segment_filled name offset size signature out → w ≡ segment_written name offset size signature out
  segment-clean e k = k ∙ sym (by-fault (Ok tt) e)
