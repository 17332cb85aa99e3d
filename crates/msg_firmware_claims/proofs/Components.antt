-- Components are read again within firmware information: each by itself, where they stand, and one after another.
use Prim.Native.Nat.{ℕ, suc, ◌+◌, ◌≤◌, ◌<◌, ◌^◌}
use mathlib.Core.Path.{◌≡◌, refl, sym, ap, ◌∙◌}
use mathlib.Core.Bool.{false}
use mathlib.Core.List.{List, [], ◌∷◌, ◌++◌, append_assoc, map}
use native.Mathlib.Nat.{add-zero}
use native.Mathlib.Omega.{arith}
use native.Mathlib.Decide.{ℕ_discrete}
use lib.ListN.{length, length-append, length-take}
use lib.Dec.{eqb}
use borrow.Author.Tests.{ne_eqb, lt-leb}
use Rattle.wire.specs.Told.{ToldMore, given}
use Rattle.proto_field.specs.declared.value.Part.{Part}
use Rattle.proto_field.specs.declared.value.Value.TheVariants.{Number, Bytes}
use Rattle.proto_field.specs.Tag.{last_field}
use Rattle.proto_field.specs.Value.{bytes_of}
use Rattle.proto_field.specs.Fields.{field, found_at}
use Rattle.proto_writer.specs.Varint.{varint_bytes}
use Rattle.proto_writer.specs.Writer.{scalar, text, tag_bytes, head_bytes, part_bytes, field_bytes, message_bytes}
use Rattle.proto_writer.proofs.Runs.{text-none, text-some, scalar-none}
use Rattle.proto_schema.specs.declared.Schema.TheVariants as Schema
use Rattle.proto_schema.specs.declared.Role.TheVariants as Role
use Rattle.proto_reader.specs.declared.gathered.Gathered.{Gathered}
use Rattle.proto_schema.specs.Schema.{role_of, components_field, firmware_component_version_field, firmware_component_name_field, firmware_component_size_field, firmware_component_signature_field}
use Rattle.proto_reader.specs.Gathered.{most_repeated, AllText, nothing, with_scalar, with_text, with_repeated}
use Rattle.proto_reader.specs.Walk.{judged, field_at, fields_from}
use Rattle.msg_firmware.specs.declared.component.FirmwareComponent.{FirmwareComponent}
use Rattle.msg_firmware.specs.Component.{component_from, component_parts}
use Rattle.msg_component_writer.specs.Component.{component_fields, component_field}
use Rattle.msg_firmware.specs.Information.{parts_from, component_in, components_in}
use Rattle.msg_firmware.proofs.Parts.{parts-turn}
use Rattle.msg_claims.proofs.Values.{At, front, behind, inside, tag-trip, number-trip, part-trip}
use Rattle.msg_claims.proofs.Fields.{Reads, reads_end, reads-scalar, reads-text, reads-part, within, tag-count, part_count, part_at, part-there, part_cut, text_at, fields_read, text-back}
use Rattle.msg_claims.proofs.RoundTrip.{done}
use Rattle.msg_firmware_claims.specs.RoundTrip.{Unsigned32, component_contents, ComponentsWritable}
use Rattle.msg_firmware_claims.proofs.Segments.{unsigned-trip}

-- ---- a component by itself
abbrev component_bytes : List ℕ → FirmwareComponent → List ℕ
component_bytes texts c = message_bytes (component_fields texts c)

-- the component that is read where its bytes stand
abbrev component_at : List ℕ → ℕ → FirmwareComponent → FirmwareComponent
component_at texts at c =
    let name = bytes_of texts c.name in
    let named = at + length (field_bytes (scalar firmware_component_version_field c.version)) in
    let signed = named + length (field_bytes (text firmware_component_name_field name)) + length (field_bytes (scalar firmware_component_size_field c.size)) in
    record {
      version = c.version;
      name = text_at named firmware_component_name_field name;
      size = c.size;
      signature = text_at signed firmware_component_signature_field (bytes_of texts c.signature);
    }

module _ (texts : List ℕ) {s : List ℕ} {at : ℕ} (c : FirmwareComponent) where
  component-from : AllText texts (component_parts c) → Unsigned32 c.version → Unsigned32 c.size → length s < 2 ^ 64 → At s at (component_bytes texts c) [] → component_from s at ≡ given (component_at texts at c)
  unfolding component_from role_of
  component-from well v z lent a =
      let name = bytes_of texts c.name in
      let signature = bytes_of texts c.signature in
      let b₁ = field_bytes (scalar firmware_component_version_field c.version) in
      let b₂ = field_bytes (text firmware_component_name_field name) in
      let b₃ = field_bytes (scalar firmware_component_size_field c.size) in
      let b₄ = field_bytes (text firmware_component_signature_field signature) in
      let a₂ = behind b₁ (b₂ ++ (b₃ ++ (b₄ ++ []))) a in
      let a₃ = behind b₂ (b₃ ++ (b₄ ++ [])) a₂ in
      let a₄ = behind b₃ (b₄ ++ []) a₃ in
      let p₂ = text_at (at + length b₁) firmware_component_name_field name in
      let p₄ = text_at (at + length b₁ + length b₂ + length b₃) firmware_component_signature_field signature in
      let g₁ = with_scalar 0 c.version nothing in
      let g₂ = with_text 0 p₂ g₁ in
      let g₃ = with_scalar 1 c.size g₂ in
      let all : fields_from Schema.Component s at ≡ given (with_text 1 p₄ g₃) =
      fields_read Schema.Component s at
      (reads-scalar Schema.Component nothing firmware_component_version_field (omega arith) (omega arith) 0 c.version refl (omega arith) refl (front b₁ (b₂ ++ (b₃ ++ (b₄ ++ []))) a)
      (reads-text Schema.Component lent g₁ firmware_component_name_field (omega arith) (omega arith) 0 name well.0 refl refl (front b₂ (b₃ ++ (b₄ ++ [])) a₂)
      (reads-scalar Schema.Component g₂ firmware_component_size_field (omega arith) (omega arith) 1 c.size refl (omega arith) refl (front b₃ (b₄ ++ []) a₃)
      (reads-text Schema.Component lent g₃ firmware_component_signature_field (omega arith) (omega arith) 1 signature well.1.0 refl refl (front b₄ [] a₄)
      (reads_end (done b₄ a₄)))))) in
      rw (all, unsigned-trip c.version v, unsigned-trip c.size z)

  component-contents : {rest : List ℕ} → At s at (component_bytes texts c) rest → component_contents s (component_at texts at c) ≡ component_contents texts c
  component-contents a =
      let name = bytes_of texts c.name in
      let signature = bytes_of texts c.signature in
      let b₁ = field_bytes (scalar firmware_component_version_field c.version) in
      let b₂ = field_bytes (text firmware_component_name_field name) in
      let b₃ = field_bytes (scalar firmware_component_size_field c.size) in
      let b₄ = field_bytes (text firmware_component_signature_field signature) in
      let a₂ = behind b₁ (b₂ ++ (b₃ ++ (b₄ ++ []))) a in
      let a₄ = behind b₃ (b₄ ++ []) (behind b₂ (b₃ ++ (b₄ ++ [])) a₂) in
      rw (text-back firmware_component_name_field name (front b₂ (b₃ ++ (b₄ ++ [])) a₂), text-back firmware_component_signature_field signature (front b₄ [] a₄))

-- ---- the parts of the components, past the other fields
scalar-there : (f v : ℕ) → (v ≡ 0 → ⊥) → field_bytes (scalar f v) ≡ tag_bytes f 0 ++ varint_bytes v
unfolding field_bytes
scalar-there f v n = rw (ne_eqb v 0 n)

module _ {s : List ℕ} {at : ℕ} {rest : List ℕ} (f : ℕ) (low : 1 ≤ f) (high : f ≤ last_field) where
  found_number : (v : ℕ) → v < 2 ^ 64 → At s at (tag_bytes f 0 ++ varint_bytes v) rest
      → found_at s at ≡ given (field f (Number v) (at + length (tag_bytes f 0 ++ varint_bytes v)))
  unfolding found_at
  found_number v h a =
      let t = tag_bytes f 0 in
      let n = varint_bytes v in
      let place : at + length t + length n ≡ at + length (t ++ n) = omega (arith, length-append t n) in
      rw (
        lt-leb (length s) at (within a (omega (arith, length-append t n, tag-count f 0))),
        tag-trip f 0 low high (omega arith) (front t n a),
        number-trip v h (behind t n a),
        place,
      )

  found_part : (l : List ℕ) → length s < 2 ^ 64 → At s at (part_bytes f l) rest
      → found_at s at ≡ given (field f (Bytes (part_at at f l)) (at + length (part_bytes f l)))
  unfolding found_at part_bytes head_bytes
  found_part l lent a =
      let t = tag_bytes f 2 in
      let n = varint_bytes (length l) in
      let b : At s at (t ++ (n ++ l)) rest = record { there = a.there ∙ ap (λ x. x ++ rest) (append_assoc t n l) } in
      let start : at + length t + length n ≡ at + length (t ++ n) = omega (arith, length-append t n) in
      let place : at + length (t ++ n) + length l ≡ at + length ((t ++ n) ++ l) = omega (arith, length-append (t ++ n) l) in
      let small : length l < 2 ^ 64 = omega (arith, inside a, length-append (t ++ n) l) in
      rw (
        lt-leb (length s) at (within a (part_count f l)),
        tag-trip f 2 low high (omega arith) (front t (n ++ l) b),
        part-trip l small (behind t (n ++ l) b),
        start,
        place,
      )

  -- another field has none
  module _ (other : eqb f components_field ≡ false) where
    pub parts-scalar : (v : ℕ) → v < 2 ^ 64 → At s at (field_bytes (scalar f v)) rest → parts_from s at ≡ parts_from s (at + length (field_bytes (scalar f v)))
    parts-scalar v h a = by_value (ℕ_discrete v 0)
      where
        by_value : Dec (v ≡ 0) → parts_from s at ≡ parts_from s (at + length (field_bytes (scalar f v)))
        by_value (yes z) = rw (scalar-none f v z, add-zero at)
        by_value (no n) =
            let e = scalar-there f v n in
            rw e (parts-turn s at (found_number v h (rw e at a)) ∙ rw other)

    pub parts-text : (l : List ℕ) → length s < 2 ^ 64 → At s at (field_bytes (text f l)) rest → parts_from s at ≡ parts_from s (at + length (field_bytes (text f l)))
    parts-text l lent a = by_length (ℕ_discrete (length l) 0)
      where
        by_length : Dec (length l ≡ 0) → parts_from s at ≡ parts_from s (at + length (field_bytes (text f l)))
        by_length (yes z) = rw (text-none f l z, add-zero at)
        by_length (no n) =
            let e = sym (text-some f l n) in
            rw e (parts-turn s at (found_part l lent (rw e at a)) ∙ rw other)

-- ---- components one after another, as fields of firmware information
abbrev pub components_bytes : List ℕ → List FirmwareComponent → List ℕ
components_bytes texts cs = message_bytes (map (component_field texts) cs)

abbrev after : List ℕ → ℕ → FirmwareComponent → ℕ
after texts at c = at + length (field_bytes (component_field texts c))

-- the parts in which they stand, and the components that are read there
abbrev pub parts_at : List ℕ → ℕ → List FirmwareComponent → List Part
parts_at texts at [] = []
parts_at texts at (c ∷ cs) = part_at at components_field (component_bytes texts c) ∷ parts_at texts (after texts at c) cs

abbrev pub components_at : List ℕ → ℕ → List FirmwareComponent → List FirmwareComponent
components_at texts at [] = []
components_at texts at (c ∷ cs) = component_at texts (part_at at components_field (component_bytes texts c)).start c ∷ components_at texts (after texts at c) cs

pub components-count : (texts : List ℕ) (at : ℕ) (cs : List FirmwareComponent) → length (components_at texts at cs) ≡ length cs
components-count texts at [] = refl
components-count texts at (c ∷ cs) = ap suc (components-count texts (after texts at c) cs)

-- what is gathered after some more components
abbrev pub with_counted : ℕ → Gathered → Gathered
with_counted n g =
    record { scalars = g.scalars; texts = g.texts; field = g.field; part = g.part; transports = g.transports; count = g.count + n }

-- past the first is past all of them
past : (texts : List ℕ) (at : ℕ) (c : FirmwareComponent) (cs : List FirmwareComponent)
    → after texts at c + length (components_bytes texts cs) ≡ at + length (components_bytes texts (c ∷ cs))
past texts at c cs = omega (arith, length-append (field_bytes (component_field texts c)) (components_bytes texts cs))

module _ (texts : List ℕ) {s : List ℕ} (lent : length s < 2 ^ 64) where
  -- the field of the first, and the others after it
  first-there : {at : ℕ} {rest : List ℕ} (c : FirmwareComponent) (cs : List FirmwareComponent) → At s at (components_bytes texts (c ∷ cs)) rest
      → At s at (part_bytes components_field (component_bytes texts c)) (components_bytes texts cs ++ rest)
  unfolding field_bytes
  first-there c cs a = front (field_bytes (component_field texts c)) (components_bytes texts cs) a

  others-there : {at : ℕ} {rest : List ℕ} (c : FirmwareComponent) (cs : List FirmwareComponent) → At s at (components_bytes texts (c ∷ cs)) rest
      → At s (after texts at c) (components_bytes texts cs) rest
  others-there c cs a = behind (field_bytes (component_field texts c)) (components_bytes texts cs) a

  reads-one : {r : ToldMore Gathered} {at : ℕ} {rest : List ℕ} (c : FirmwareComponent) (g : Gathered) → g.count < most_repeated
      → At s at (part_bytes components_field (component_bytes texts c)) rest
      → Reads (field_at Schema.Firmware) s (after texts at c) (with_repeated g) r → Reads (field_at Schema.Firmware) s at g r
  unfolding field_bytes judged role_of
  reads-one c g h a R =
      reads-part Schema.Firmware lent g components_field (omega arith) (omega arith) Role.Repeated (component_bytes texts c) (with_repeated g) refl
      (rw (lt-leb 8 g.count h)) refl a R

  pub reads-components : {r : ToldMore Gathered} (at : ℕ) (rest : List ℕ) (cs : List FirmwareComponent) (g : Gathered) → g.count + length cs ≤ most_repeated
      → At s at (components_bytes texts cs) rest
      → Reads (field_at Schema.Firmware) s (at + length (components_bytes texts cs)) (with_counted (length cs) g) r → Reads (field_at Schema.Firmware) s at g r
  reads-components at rest [] g h a R = rw (add-zero at, add-zero g.count) at R
  reads-components {r} at rest (c ∷ cs) g h a R =
      reads-one c g (omega arith) (first-there c cs a) (reads-components (after texts at c) rest cs (with_repeated g) (omega arith) (others-there c cs a) next)
    where
      same : with_counted (length cs) (with_repeated g) ≡ with_counted (suc (length cs)) g
      same = let e : g.count + 1 + length cs ≡ g.count + suc (length cs) = omega arith in rw e

      next : Reads (field_at Schema.Firmware) s (after texts at c + length (components_bytes texts cs)) (with_counted (length cs) (with_repeated g)) r
      next = rw (past texts at c cs, same) R

  parts-one : {at : ℕ} {rest : List ℕ} (c : FirmwareComponent) → At s at (part_bytes components_field (component_bytes texts c)) rest
      → parts_from s at ≡ part_at at components_field (component_bytes texts c) ∷ parts_from s (after texts at c)
  unfolding field_bytes
  parts-one {at} c a = parts-turn s at (found_part components_field (omega arith) (omega arith) (component_bytes texts c) lent a)

  component-in : {at : ℕ} {rest : List ℕ} (c : FirmwareComponent) → AllText texts (component_parts c) → Unsigned32 c.version → Unsigned32 c.size
      → At s at (part_bytes components_field (component_bytes texts c)) rest
      → component_in s (part_at at components_field (component_bytes texts c)) ≡ given (component_at texts (part_at at components_field (component_bytes texts c)).start c)
  unfolding component_in
  component-in {at} c well v z a =
      component-from texts c well v z (omega (arith, length-take ((part_at at components_field (component_bytes texts c)).start + length (component_bytes texts c)) s))
      (part_cut components_field (component_bytes texts c) a)

  pub parts-components : (at : ℕ) (rest : List ℕ) (cs : List FirmwareComponent) → At s at (components_bytes texts cs) rest
      → parts_from s at ≡ parts_at texts at cs ++ parts_from s (at + length (components_bytes texts cs))
  parts-components at rest [] a = rw (add-zero at)
  parts-components at rest (c ∷ cs) a =
      parts-one c (first-there c cs a)
      ∙ ap (λ ps. part_at at components_field (component_bytes texts c) ∷ ps) (parts-components (after texts at c) rest cs (others-there c cs a) ∙ rw (past texts at c cs))

  pub components-in : (at : ℕ) (rest : List ℕ) (cs : List FirmwareComponent) → ComponentsWritable texts cs → At s at (components_bytes texts cs) rest
      → components_in s (parts_at texts at cs) ≡ given (components_at texts at cs)
  components-in at rest [] t a = refl
  components-in at rest (c ∷ cs) t a =
      rw (component-in c t.0.2.1 t.0.0 t.0.1 (first-there c cs a), components-in (after texts at c) rest cs t.1 (others-there c cs a))

  pub components-contents : (at : ℕ) (rest : List ℕ) (cs : List FirmwareComponent) → At s at (components_bytes texts cs) rest
      → map (component_contents s) (components_at texts at cs) ≡ map (component_contents texts) cs
  components-contents at rest [] a = refl
  components-contents at rest (c ∷ cs) a =
      rw (
        component-contents texts c (part-there components_field (component_bytes texts c) (first-there c cs a)),
        components-contents (after texts at c) rest cs (others-there c cs a),
      )
