-- What is told of a message is in range, so that it can be written again.
use Prim.Native.Nat.{ℕ, zero, suc, ◌+◌, ◌≤◌, zero-le}
use mathlib.Core.Path.{◌≡◌, refl, subst}
use mathlib.Core.Bool.{Bool, true, false, cond, not}
use mathlib.Core.List.{List, [], ◌∷◌}
use native.Mathlib.Omega.{arith}
use lib.ListN.{length, take, set, get_or, replicate}
use lib.Seq.{sets, length-sets}
use lib.Dec.{eqb}
use borrow.Author.Tests.{ne_eqb}
use Rattle.wire.specs.Told.{ToldMore, given, refused, and_then}
use Rattle.proto_field.specs.declared.value.Part.{Part}
use Rattle.proto_field.specs.Unsigned.{unsigned_of}
use Rattle.proto_field.specs.Value.{bytes_of}
use Rattle.proto_field.proofs.Told.{Sat, sat-then, sat_weaken, sat-given}
use Rattle.utf8.specs.WellFormed.{empty}
use Rattle.proto_writer.specs.Writer.{message_bytes}
use Rattle.proto_reader.specs.declared.gathered.Gathered.{Gathered}
use Rattle.proto_schema.specs.declared.Schema.{Schema}
use Rattle.proto_schema.specs.declared.Schema.TheVariants as Schema
use Rattle.proto_schema.specs.Schema.{first, second, third}
use Rattle.proto_reader.specs.Gathered.{most_repeated}
use Rattle.proto_reader.specs.Walk.{fields_from}
use Rattle.proto_reader.proofs.Strings.{text-get, strings-first}
use Rattle.proto_strings.specs.Texts.{AllWellFormed}
use Rattle.msg_firmware.specs.declared.segment.UpdateComponentSegment.{UpdateComponentSegment}
use Rattle.msg_firmware.specs.declared.component.FirmwareComponent.{FirmwareComponent}
use Rattle.msg_firmware.specs.declared.information.FirmwareInformation.{FirmwareInformation}
use Rattle.msg_firmware.specs.declared.apply.ApplyFirmware.{ApplyFirmware}
use Rattle.msg_firmware.specs.Segment.{is_signature, broken_field, segment_made, segment_judged, segment_of}
use Rattle.msg_segment_writer.specs.Segment.{segment_strings, segment_fields, segment_written}
use Rattle.msg_firmware.specs.Component.{no_component, component_from, component_parts}
use Rattle.msg_firmware.specs.Information.{parts_from, component_in, components_in, components_from, firmware_from}
use Rattle.msg_apply_writer.specs.Information.{present}
use Rattle.msg_firmware.specs.Apply.{firmware_in, apply_of}
use Rattle.msg_firmware.proofs.Insides.{Gathers, gathers, text-within}
use Rattle.msg_claims.specs.RoundTrip.{ReadsBack}
use Rattle.msg_firmware_claims.specs.RoundTrip.{Unsigned32, segment_again, SegmentRoundTrip, SegmentsToldTaken, ComponentWritable, ComponentsWritable, FirmwareWritable, ApplyRoundTrip, AppliesToldTaken}
use Rattle.msg_firmware_claims.proofs.Segments.{segment-round-trip}
use Rattle.msg_firmware_claims.proofs.Applies.{apply-round-trip}

-- the low 32 bits
unsigned-fits : (v : ℕ) → Unsigned32 (unsigned_of v)
unsigned-fits v = omega arith

-- ---- the segment
-- no field is broken: the offset is 0 and the signature is one
unbroken : (offset : ℕ) (signature : List ℕ) → eqb (broken_field offset signature) 0 ≡ true → (offset ≡ 0) × (is_signature signature ≡ true)
unfolding broken_field
unbroken zero signature e = (refl, by-test (is_signature signature) e)
  where
    by-test : (b : Bool) → eqb (cond (not b) 4 0) 0 ≡ true → b ≡ true
    by-test true e = refl
    by-test false e = absurd (let z : ◌≡◌ {A = ℕ} 0 1 = cc in omega arith)
unbroken (suc n) signature e =
    let f : broken_field (suc n) signature ≡ 2 = rw (ne_eqb (suc n) 0 (λ z. omega arith)) in
    absurd (let z : ◌≡◌ {A = ℕ} 0 1 = (let o : eqb 2 0 ≡ true = rw f at e in cc) in omega arith)

-- what is told of a segment
record Judged (s : List ℕ) (m : UpdateComponentSegment) : Type 0 where
  begins : m.component_offset ≡ 0
  digits : is_signature (bytes_of s m.segment_signature) ≡ true
  number : Unsigned32 m.segment_size
  strings : AllWellFormed (segment_strings (bytes_of s m.component_name) (bytes_of s m.segment_signature))

segment-judged : (s : List ℕ) (m : UpdateComponentSegment) → segment_of s ≡ given m → Judged s m
unfolding segment_of
segment-judged s m e = by-gathered (fields_from Schema.Segment s 0) (gathers Schema.Segment s 0) e
  where
    by-test : (g : Gathered) → Gathers s g → (b : Bool) → eqb (broken_field (segment_made g).component_offset (bytes_of s (segment_made g).segment_signature)) 0 ≡ b
        → cond {A = ToldMore UpdateComponentSegment} b (given (segment_made g)) (refused (50, broken_field (segment_made g).component_offset (bytes_of s (segment_made g).segment_signature) ∷ [])) ≡ given m → Judged s m
    by-test g w true t e =
        let same : segment_made g ≡ m = cc in
        let u = unbroken (segment_made g).component_offset (bytes_of s (segment_made g).segment_signature) t in
        subst (λ (x : UpdateComponentSegment). Judged s x) same
        (record { begins = u.0; digits = u.1; number = unsigned-fits (get_or g.scalars second 0); strings = (text-get s g.texts first w.texts, (text-get s g.texts second w.texts, tt)) })
    by-test g w false t e = absurd (let z : ◌≡◌ {A = ℕ} 0 1 = cc in omega arith)

    by-gathered : (r : ToldMore Gathered) → Sat (Gathers s) r → and_then r (λ g. segment_judged s (segment_made g)) ≡ given m → Judged s m
    by-gathered (given g) w e = by-test g w (eqb (broken_field (segment_made g).component_offset (bytes_of s (segment_made g).segment_signature)) 0) refl e
    by-gathered (refused n) w e = absurd (let z : ◌≡◌ {A = ℕ} 0 1 = cc in omega arith)

pub segments-told-taken : SegmentsToldTaken
unfolding SegmentsToldTaken SegmentRoundTrip
segments-told-taken s out m e lent room =
    let j = segment-judged s m e in
    taken j m.component_offset j.begins room
  where
    taken : Judged s m → (offset : ℕ) → offset ≡ 0
        → length (message_bytes (segment_fields (bytes_of s m.component_name) offset m.segment_size (bytes_of s m.segment_signature))) ≤ length out
        → ReadsBack (segment_written (bytes_of s m.component_name) offset m.segment_size (bytes_of s m.segment_signature) out) segment_again
        (bytes_of s m.component_name, offset, m.segment_size, bytes_of s m.segment_signature)
    taken j zero z room =
        segment-round-trip (bytes_of s m.component_name) m.segment_size (bytes_of s m.segment_signature) out
        (record { number = j.number; digits = j.digits; strings = j.strings; lent = omega (arith, lent); room = room })
    taken j (suc n) z room = absurd (omega arith)

-- ---- components
component-takes : (s : List ℕ) (at : ℕ) → Sat (ComponentWritable s) (component_from s at)
unfolding component_from
component-takes s at =
    sat-then (Gathers s) (ComponentWritable s) (fields_from Schema.Component s at) _ (gathers Schema.Component s at)
    (λ g w. (unsigned-fits (get_or g.scalars first 0), unsigned-fits (get_or g.scalars second 0), ((text-within s g first w, (text-within s g second w, tt)), (text-get s g.texts first w.texts, (text-get s g.texts second w.texts, tt)))))

component-in-takes : (s : List ℕ) (p : Part) → Sat (ComponentWritable s) (component_in s p)
unfolding component_in
component-in-takes s p =
    let t = take (p.start + p.len) s in
    sat_weaken (ComponentWritable t) (ComponentWritable s) (component_from t p.start) (component-takes t p.start)
    (λ c h. (h.0, h.1, strings-first (p.start + p.len) s (component_parts c) h.2))

components-in-take : (s : List ℕ) (ps : List Part) → Sat (ComponentsWritable s) (components_in s ps)
components-in-take s [] = tt
components-in-take s (p ∷ ps) =
    sat-then (ComponentWritable s) (ComponentsWritable s) (component_in s p) _ (component-in-takes s p)
    (λ c h. sat-then (ComponentsWritable s) (ComponentsWritable s) (components_in s ps) _ (components-in-take s ps) (λ cs k. (h, k)))

none-take : (s : List ℕ) (n : ℕ) → ComponentsWritable s (replicate n no_component)
none-take s zero = tt
none-take s (suc n) = ((omega arith, omega arith, ((zero-le, (zero-le, tt)), (empty, (empty, tt)))), none-take s n)

set-take : (s : List ℕ) (l : List FirmwareComponent) (i : ℕ) (c : FirmwareComponent) → ComponentWritable s c → ComponentsWritable s l → ComponentsWritable s (set l i c)
set-take s [] i c h w = tt
set-take s (x ∷ l) zero c h w = (h, w.1)
set-take s (x ∷ l) (suc i) c h w = (w.0, set-take s l i c h w.1)

sets-take : (s : List ℕ) (cs l : List FirmwareComponent) (i : ℕ) → ComponentsWritable s cs → ComponentsWritable s l → ComponentsWritable s (sets l i cs)
sets-take s [] l i h w = w
sets-take s (c ∷ cs) l i h w = sets-take s cs (set l i c) (suc i) h.1 (set-take s l i c h.0 w)

first-take : (s : List ℕ) (n : ℕ) (l : List FirmwareComponent) → ComponentsWritable s l → ComponentsWritable s (take n l)
first-take s zero l w = tt
first-take s (suc n) [] w = tt
first-take s (suc n) (c ∷ l) w = (w.0, first-take s n l w.1)

-- eight places, in range
abbrev pub Eight : List ℕ → List FirmwareComponent → Type 0
Eight s cs = (length cs ≡ most_repeated) × ComponentsWritable s cs

components-take : (s : List ℕ) (at : ℕ) → Sat (Eight s) (components_from s at)
unfolding components_from
components-take s at =
    sat-then (ComponentsWritable s) (Eight s) (components_in s (parts_from s at)) _ (components-in-take s (parts_from s at))
    (λ cs h. (length-sets (replicate most_repeated no_component) 0 cs, sets-take s cs (replicate most_repeated no_component) 0 h (none-take s most_repeated)))

-- ---- firmware information
firmware-takes : (s : List ℕ) (at : ℕ) → Sat (FirmwareWritable s) (firmware_from s at)
unfolding firmware_from
firmware-takes s at =
    sat-then (Gathers s) (FirmwareWritable s) (fields_from Schema.Firmware s at) _ (gathers Schema.Firmware s at)
    (λ g w. sat-then (Eight s) (FirmwareWritable s) (components_from s at) _ (components-take s at)
    (λ cs h. record {
      number = unsigned-fits (get_or g.scalars first 0);
      strings = ((text-within s g first w, (text-within s g second w, (text-within s g third w, tt))), (text-get s g.texts first w.texts, (text-get s g.texts second w.texts, (text-get s g.texts third w.texts, tt))));
      most = w.most;
      there = omega (arith, w.most, h.0);
      components = first-take s g.count cs h.1;
    }))

-- in a longer message
components-longer : (n : ℕ) (s : List ℕ) (cs : List FirmwareComponent) → ComponentsWritable (take n s) cs → ComponentsWritable s cs
components-longer n s [] h = tt
components-longer n s (c ∷ cs) h = ((h.0.0, h.0.1, strings-first n s (component_parts c) h.0.2), components-longer n s cs h.1)

firmware-in-takes : (s : List ℕ) (p : Part) → Sat (FirmwareWritable s) (firmware_in s p)
unfolding firmware_in
firmware-in-takes s p =
    let t = take (p.start + p.len) s in
    sat_weaken (FirmwareWritable t) (FirmwareWritable s) (firmware_from t p.start) (firmware-takes t p.start)
    (λ f h. record {
      number = h.number;
      strings = strings-first (p.start + p.len) s (f.name ∷ f.locale ∷ f.version_name ∷ []) h.strings;
      most = h.most;
      there = h.there;
      components = components-longer (p.start + p.len) s (present f) h.components;
    })

-- ---- the message
pub apply-takes : (s : List ℕ) → Sat (λ (a : ApplyFirmware). FirmwareWritable s a.firmware_information) (apply_of s)
unfolding apply_of
apply-takes s =
    let Q : ApplyFirmware → Type 0 = λ a. FirmwareWritable s a.firmware_information in
    sat-then (Gathers s) Q (fields_from Schema.Apply s 0) _ (gathers Schema.Apply s 0)
    (λ g w. sat-then (FirmwareWritable s) Q (firmware_in s g.part) _ (firmware-in-takes s g.part) (λ f h. h))

-- .. with eight components, those that are not there in range too
pub apply-eight : (s : List ℕ) → Sat (λ (a : ApplyFirmware). Eight s a.firmware_information.components) (apply_of s)
unfolding apply_of firmware_in firmware_from
apply-eight s =
    let Q : ApplyFirmware → Type 0 = λ a. Eight s a.firmware_information.components in
    let P : FirmwareInformation → Type 0 = λ f. Eight s f.components in
    sat-then (Gathers s) Q (fields_from Schema.Apply s 0) _ (gathers Schema.Apply s 0)
    (λ g w. let t = take (g.part.start + g.part.len) s in
    sat-then P Q (firmware_in s g.part) _
    (sat-then (Gathers t) P (fields_from Schema.Firmware t g.part.start) _ (gathers Schema.Firmware t g.part.start)
    (λ h k. sat-then (Eight t) P (components_from t g.part.start) _ (components-take t g.part.start)
    (λ cs e. (e.0, components-longer (g.part.start + g.part.len) s cs e.1)))) (λ f h. h))

pub applies-told-taken : AppliesToldTaken
unfolding AppliesToldTaken ApplyRoundTrip
applies-told-taken s out a e lent room =
    apply-round-trip a s out
    (record {
      firmware = sat-given (λ (x : ApplyFirmware). FirmwareWritable s x.firmware_information) (apply_of s) a (apply-takes s) e;
      lent = omega (arith, lent);
      room = omega (arith, room);
    })
