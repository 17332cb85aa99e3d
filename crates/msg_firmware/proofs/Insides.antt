-- Laws of what is told of ApplyFirmware: all strings lie within the message and are well formed, and there are at most eight components.
use Prim.Native.Nat.{ℕ, zero, suc, ◌+◌, ◌≤◌, zero-le}
use mathlib.Core.Path.{◌≡◌, refl}
use mathlib.Core.List.{List, [], ◌∷◌}
use lib.ListN.{length, take, set, get_or, replicate}
use lib.Seq.{sets}
use Rattle.wire.specs.Told.{ToldMore, given, refused}
use Rattle.proto_field.specs.declared.value.Part.{Part}
use Rattle.proto_field.specs.Value.{Within}
use Rattle.proto_field.proofs.Told.{Sat, sat-then, sat_weaken}
use Rattle.proto_field.proofs.Places.{within-get}
use Rattle.proto_reader.specs.declared.gathered.Gathered.{Gathered}
use Rattle.proto_schema.specs.declared.Schema.{Schema}
use Rattle.proto_schema.specs.Schema.{first, second, third}
use Rattle.proto_reader.specs.Gathered.{most_repeated, no_part, parts_gathered, AllText}
use Rattle.proto_reader.specs.Refusal.{Strings}
use Rattle.proto_reader.specs.Walk.{fields_from}
use Rattle.utf8.specs.WellFormed.{empty}
use Rattle.proto_reader.proofs.Strings.{text-get, strings-first}
use Rattle.proto_reader.proofs.Steps.{fields_within}
use Rattle.msg_firmware.specs.declared.component.FirmwareComponent.{FirmwareComponent}
use Rattle.msg_firmware.specs.declared.information.FirmwareInformation.{FirmwareInformation}
use Rattle.msg_firmware.specs.Component.{no_component, component_from, component_parts}
use Rattle.msg_firmware.specs.Information.{parts_from, component_in, components_in, components_from, firmware_from, own_parts, Each}
use Rattle.msg_firmware.specs.Apply.{firmware_in, apply_of, InsideMessage}

-- ---- what was gathered
pub record Gathers (s : List ℕ) (g : Gathered) : Type 0 where
  pub parts : Within s (parts_gathered g)
  pub most : g.count ≤ most_repeated
  pub texts : AllText s g.texts

pub gathers : (schema : Schema) (s : List ℕ) (at : ℕ) → Sat (Gathers s) (fields_from schema s at)
gathers schema s at = by-told (fields_from schema s at) refl
  where
    by-told : (r : ToldMore Gathered) → fields_from schema s at ≡ r → Sat (Gathers s) r
    by-told (given g) e = let w = fields_within schema s at g e in record { parts = w.0; most = w.1; texts = w.2 }
    by-told (refused n) e = tt

pub text-within : (s : List ℕ) (g : Gathered) (i : ℕ) → Gathers s g → (get_or g.texts i no_part).start + (get_or g.texts i no_part).len ≤ length s
text-within s g i w = within-get s g.texts i no_part zero-le w.parts.1

-- ---- components
component-within : (s : List ℕ) (at : ℕ) → Sat (λ (c : FirmwareComponent). Strings s (component_parts c)) (component_from s at)
unfolding component_from
component-within s at =
    sat-then (Gathers s) (λ (c : FirmwareComponent). Strings s (component_parts c)) (fields_from Schema.Component s at) _ (gathers Schema.Component s at)
    (λ g w. ((text-within s g first w, (text-within s g second w, tt)), (text-get s g.texts first w.texts, (text-get s g.texts second w.texts, tt))))

component-in-within : (s : List ℕ) (p : Part) → Sat (λ (c : FirmwareComponent). Strings s (component_parts c)) (component_in s p)
unfolding component_in
component-in-within s p =
    let t = take (p.start + p.len) s in
    sat_weaken (λ (c : FirmwareComponent). Strings t (component_parts c)) (λ (c : FirmwareComponent). Strings s (component_parts c)) (component_from t p.start) (component-within t p.start)
    (λ c h. strings-first (p.start + p.len) s (component_parts c) h)

-- ---- what holds of each component that is read holds of all eight places, if it holds of the empty one
module _ (P : FirmwareComponent → Type 0) where
  each_set : (l : List FirmwareComponent) (i : ℕ) (c : FirmwareComponent) → P c → Each P l → Each P (set l i c)
  each_set [] i c h w = tt
  each_set (x ∷ l) zero c h w = (h, w.1)
  each_set (x ∷ l) (suc i) c h w = (w.0, each_set l i c h w.1)

  each-sets : (cs l : List FirmwareComponent) (i : ℕ) → Each P cs → Each P l → Each P (sets l i cs)
  each-sets [] l i h w = w
  each-sets (c ∷ cs) l i h w = each-sets cs (set l i c) (suc i) h.1 (each_set l i c h.0 w)

  each_none : P no_component → (n : ℕ) → Each P (replicate n no_component)
  each_none h zero = tt
  each_none h (suc n) = (h, each_none h n)

  module _ (s : List ℕ) (reads : (p : Part) → Sat P (component_in s p)) (none : P no_component) where
    each_in : (ps : List Part) → Sat (Each P) (components_in s ps)
    each_in [] = tt
    each_in (p ∷ ps) = sat-then P (Each P) (component_in s p) _ (reads p) (λ c h. sat-then (Each P) (Each P) (components_in s ps) _ (each_in ps) (λ cs k. (h, k)))

    pub each_from : (at : ℕ) → Sat (Each P) (components_from s at)
    unfolding components_from
    each_from at =
        sat-then (Each P) (Each P) (components_in s (parts_from s at)) _ (each_in (parts_from s at))
        (λ cs h. each-sets cs (replicate most_repeated no_component) 0 h (each_none none most_repeated))

-- ---- firmware information
abbrev Held : List ℕ → FirmwareComponent → Type 0
Held s c = Strings s (component_parts c)

abbrev Firm : List ℕ → FirmwareInformation → Type 0
Firm s f = Strings s (own_parts f) × Each (Held s) f.components × (f.count ≤ most_repeated)

none-held : (s : List ℕ) → Held s no_component
none-held s = ((zero-le, (zero-le, tt)), (empty, (empty, tt)))

firmware-within : (s : List ℕ) (at : ℕ) → Sat (Firm s) (firmware_from s at)
unfolding firmware_from
firmware-within s at =
    sat-then (Gathers s) (Firm s) (fields_from Schema.Firmware s at) _ (gathers Schema.Firmware s at)
    (λ g w. sat-then (Each (Held s)) (Firm s) (components_from s at) _ (each_from (Held s) s (component-in-within s) (none-held s) at)
    (λ cs h. (
      (
        (text-within s g first w, (text-within s g second w, (text-within s g third w, tt))),
        (text-get s g.texts first w.texts, (text-get s g.texts second w.texts, (text-get s g.texts third w.texts, tt))),
      ),
      h,
      w.most,
    )))

held_first : (n : ℕ) (s : List ℕ) (cs : List FirmwareComponent) → Each (Held (take n s)) cs → Each (Held s) cs
held_first n s [] h = tt
held_first n s (c ∷ cs) h = (strings-first n s (component_parts c) h.0, held_first n s cs h.1)

firmware-in-within : (s : List ℕ) (p : Part) → Sat (Firm s) (firmware_in s p)
unfolding firmware_in
firmware-in-within s p =
    let t = take (p.start + p.len) s in
    sat_weaken (Firm t) (Firm s) (firmware_from t p.start) (firmware-within t p.start)
    (λ f h. (strings-first (p.start + p.len) s (own_parts f) h.0, held_first (p.start + p.len) s f.components h.1, h.2))

pub apply-within : (s : List ℕ) → Sat (InsideMessage s) (apply_of s)
unfolding apply_of
apply-within s =
    sat-then (Gathers s) (InsideMessage s) (fields_from Schema.Apply s 0) _ (gathers Schema.Apply s 0)
    (λ g w. sat-then (Firm s) (InsideMessage s) (firmware_in s g.part) _ (firmware-in-within s g.part) (λ f h. record { own = h.0; each = h.1; most = h.2 }))

-- the part of the firmware information lies within the message
pub part-inside : (s : List ℕ) (g : Gathered) → fields_from Schema.Apply s 0 ≡ given g → g.part.start + g.part.len ≤ length s
part-inside s g e = (fields_within Schema.Apply s 0 g e).0.0
