-- What is written is read again: fields, one after another, by the walk of any message.
use Prim.Native.Nat.{ℕ, suc, ◌+◌, ◌-◌, ◌*◌, ◌≤◌, ◌<◌, ◌^◌}
use mathlib.Core.Path.{◌≡◌, refl, sym, ap, ◌∙◌}
use mathlib.Core.Bool.{cond}
use mathlib.Core.List.{List, [], ◌∷◌, ◌++◌, append_assoc, map}
use native.Mathlib.Nat.{add-zero}
use native.Mathlib.Numerals.{add-one}
use native.Mathlib.Omega.{arith}
use native.Mathlib.Decide.{ℕ_discrete}
use lib.IntN.{ℤ}
use lib.ListN.{length, take, length-append}
use lib.Seq.{sets}
use lib.Dec.{eqb}
use borrow.Author.Tests.{eq-eqb, ne_eqb, lt-leb}
use mir.Syntax.{w32}
use mir.Val.{SFits}
use Rattle.wire.specs.Told.{ToldOf, ToldMore, alone, given}
use Rattle.proto_field.specs.declared.value.Part.{Part}
use Rattle.proto_writer.specs.Varint.{varint_bytes}
use Rattle.proto_field.specs.Signed.{extended}
use Rattle.proto_field.specs.Tag.{last_field}
use Rattle.proto_field.specs.Value.{bytes_of}
use Rattle.utf8.specs.WellFormed.{WellFormed, bad_place}
use Rattle.utf8.proofs.Places.{well-formed-whole}
use Rattle.proto_writer.specs.Writer.{scalar, text, packed, nested, tag_bytes, head_bytes, part_bytes, varints_bytes, field_bytes}
use Rattle.proto_writer.proofs.Varints.{varint-count}
use Rattle.proto_writer.proofs.Runs.{text-some, packed_none, packed-some, joined_length, part-is}
use Rattle.msg_claims.proofs.Values.{At, front, behind, inside, last, taken, cut, varint-trip, signed-trip, extended_fits, tag-trip, number-trip, part-trip}
use Rattle.proto_schema.specs.declared.Schema.{Schema}
use Rattle.proto_schema.specs.declared.Role.{Role}
use Rattle.proto_schema.specs.declared.Role.TheVariants.{Scalar, Text, Transports}
use Rattle.proto_reader.specs.declared.gathered.Gathered.{Gathered}
use Rattle.proto_schema.specs.Schema.{role_of}
use Rattle.proto_reader.specs.Gathered.{nothing, no_part, with_scalar, with_text, with_member, with_transport}
use Rattle.proto_reader.specs.Walk.{walk, entry_at, packed_from, judged, part_added, added_at, read_at, with_added, field_at, fields_from}
use Rattle.msg_claims.specs.RoundTrip.{AllSigned32}
use Rattle.proto_reader.proofs.Walks.{Forward, walk_end, walk-next}
use Rattle.proto_reader.proofs.Steps.{entry-forward, field-forward}
use Rattle.proto_reader.proofs.Strings.{string-taken}

-- ---- a walk from a place gives r, with any fuel that is enough
pub record Reads {N : Type 0} (step : List ℕ → ℕ → Gathered → ToldOf N (Gathered × ℕ)) (s : List ℕ) (at : ℕ) (g : Gathered) (r : ToldOf N Gathered) : Type 0 where
  pub runs : (fuel : ℕ) → length s ≤ at + fuel → walk step fuel s at g ≡ r

module _ {N : Type 0} {step : List ℕ → ℕ → Gathered → ToldOf N (Gathered × ℕ)} where
  pub reads_end : {s : List ℕ} {at : ℕ} {g : Gathered} → length s ≤ at → Reads step s at g (given g)
  reads_end {s} {at} {g} h = record { runs = λ fuel l. walk_end step fuel s at g h }

  pub reads-next : Forward step → {s : List ℕ} {at : ℕ} {g : Gathered} {r : ToldOf N Gathered} (q : Gathered × ℕ) → at < length s → step s at g ≡ given q
      → Reads step s q.1 q.0 r → Reads step s at g r
  reads-next forward {s} {at} {g} q h e R =
      record { runs = λ fuel l. walk-next step s at g h fuel l q e ∙ R.runs (fuel - 1) (omega (arith, forward s at g q e)) }

-- the place before something that is not empty lies within the message
pub within : {s : List ℕ} {at : ℕ} {l rest : List ℕ} → At s at l rest → 1 ≤ length l → at < length s
within a h = omega (arith, inside a)

pub tag-count : (f w : ℕ) → 1 ≤ length (tag_bytes f w)
unfolding tag_bytes
tag-count f w = (varint-count (f * 8 + w)).0

-- ---- one field: a number, and a part
-- where the part of a field that stands at a place is
abbrev pub part_at : ℕ → ℕ → List ℕ → Part
part_at at f l = record { start = at + length (head_bytes f (length l)); len = length l }

pub part-there : {s : List ℕ} {at : ℕ} {rest : List ℕ} (f : ℕ) (l : List ℕ) → At s at (part_bytes f l) rest → At s (at + length (head_bytes f (length l))) l rest
unfolding part_bytes
part-there f l a = behind (head_bytes f (length l)) l a

pub part_count : (f : ℕ) (l : List ℕ) → 1 ≤ length (part_bytes f l)
unfolding part_bytes head_bytes
part_count f l =
    omega (arith, length-append (tag_bytes f 2 ++ varint_bytes (length l)) l, length-append (tag_bytes f 2) (varint_bytes (length l)), tag-count f 2)

-- and in the first bytes up to its end, where nothing follows it
pub part_cut : {s : List ℕ} {at : ℕ} {rest : List ℕ} (f : ℕ) (l : List ℕ) → At s at (part_bytes f l) rest
    → At (take ((part_at at f l).start + length l) s) (part_at at f l).start l []
part_cut f l a = cut (omega (arith, inside a, within a (part_count f l), joined_length (head_bytes f (length l)) l (part-is f l))) (part-there f l a)

module _ (schema : Schema) {s : List ℕ} {at : ℕ} {rest : List ℕ} (g : Gathered) (f : ℕ) (low : 1 ≤ f) (high : f ≤ last_field) where
  number_step : (i v : ℕ) → role_of schema f ≡ Scalar i → v < 2 ^ 64 → At s at (tag_bytes f 0 ++ varint_bytes v) rest
      → field_at schema s at g ≡ given (with_scalar i v g, at + length (tag_bytes f 0 ++ varint_bytes v))
  unfolding field_at read_at added_at judged
  number_step i v e h a =
      let place : at + length (tag_bytes f 0) + length (varint_bytes v) ≡ at + length (tag_bytes f 0 ++ varint_bytes v) = omega (arith, length-append (tag_bytes f 0) (varint_bytes v)) in
      rw (
        tag-trip f 0 low high (omega arith) (front (tag_bytes f 0) (varint_bytes v) a),
        e,
        number-trip v h (behind (tag_bytes f 0) (varint_bytes v) a),
        place,
      )

  pub part_step : (role : Role) (l : List ℕ) (g' : Gathered) → role_of schema f ≡ role → judged role 2 g.field g.count ≡ given tt
      → with_added s (part_added role f (part_at at f l)) g ≡ given g' → length l < 2 ^ 64 → At s at (part_bytes f l) rest
      → field_at schema s at g ≡ given (g', at + length (part_bytes f l))
  unfolding field_at read_at added_at part_bytes head_bytes
  part_step role l g' e j k h a =
      let t = tag_bytes f 2 in
      let n = varint_bytes (length l) in
      let b : At s at (t ++ (n ++ l)) rest = record { there = a.there ∙ ap (λ x. x ++ rest) (append_assoc t n l) } in
      let start : at + length t + length n ≡ at + length (t ++ n) = omega (arith, length-append t n) in
      let place : at + length (t ++ n) + length l ≡ at + length ((t ++ n) ++ l) = omega (arith, length-append (t ++ n) l) in
      rw (tag-trip f 2 low high (omega arith) (front t (n ++ l) b), e, j, part-trip l h (behind t (n ++ l) b), start, k, place)

-- ---- a message, field by field: one that is left out where it is empty leaves what was gathered as it was
-- the part of a string that stands at a place
abbrev pub text_at : ℕ → ℕ → List ℕ → Part
text_at at f l = cond (eqb (length l) 0) no_part (part_at at f l)

-- what is gathered after some more transports
abbrev pub with_transports : List ℤ → Gathered → Gathered
with_transports ts g =
    record {
      scalars = g.scalars;
      texts = g.texts;
      field = g.field;
      part = g.part;
      transports = sets g.transports g.count ts;
      count = g.count + length ts;
    }

no-transports : (g : Gathered) → with_transports [] g ≡ g
no-transports g = rw (add-zero g.count)

one_more : (t : ℤ) (ts : List ℤ) (g : Gathered) → with_transports ts (with_transports (t ∷ []) g) ≡ with_transports (t ∷ ts) g
one_more t ts g =
    let e : g.count + 1 + length ts ≡ g.count + suc (length ts) = omega arith in
    rw (e, add-one g.count)

entry-step : {s : List ℕ} {at : ℕ} {rest : List ℕ} (t : ℤ) (g : Gathered) → SFits w32 t → g.count < 8 → At s at (varint_bytes (extended t)) rest
    → entry_at s at g ≡ given (with_transports (t ∷ []) g, at + length (varint_bytes (extended t)))
unfolding entry_at with_transport
entry-step t g f h a = rw (varint-trip (extended t) (extended_fits t f) a, lt-leb 8 g.count h, signed-trip t f)

reads-entries : {s : List ℕ} {at : ℕ} (ts : List ℤ) (g : Gathered) → AllSigned32 ts → g.count + length ts ≤ 8 → At s at (varints_bytes (map extended ts)) []
    → Reads entry_at s at g (given (with_transports ts g))
reads-entries {s} {at} [] g fs h a = rw (no-transports g) (reads_end (omega (arith, last a)))
reads-entries {s} {at} (t ∷ ts) g fs h a =
    let v = varint_bytes (extended t) in
    let l = varints_bytes (map extended ts) in
    reads-next entry-forward (with_transports (t ∷ []) g, at + length v)
    (within a (omega (arith, length-append v l, varint-count (extended t)))) (entry-step t g fs.0 (omega arith) (front v l a))
    (rw (one_more t ts g) at (reads-entries {s = s} {at = at + length v} ts (with_transports (t ∷ []) g) fs.1 (omega arith) (behind v l a)))

module _ (schema : Schema) {s : List ℕ} {at : ℕ} {rest : List ℕ} {r : ToldMore Gathered} (g : Gathered) (f : ℕ) (low : 1 ≤ f) (high : f ≤ last_field) where
  pub reads-scalar : (i v : ℕ) → role_of schema f ≡ Scalar i → v < 2 ^ 64 → with_scalar i 0 g ≡ g → At s at (field_bytes (scalar f v)) rest
      → Reads (field_at schema) s (at + length (field_bytes (scalar f v))) (with_scalar i v g) r → Reads (field_at schema) s at g r
  unfolding field_bytes
  reads-scalar i v e h same a R = by_value (ℕ_discrete v 0)
    where
      by_value : Dec (v ≡ 0) → Reads (field_at schema) s at g r
      by_value (yes z) =
          let p : at + length (field_bytes (scalar f v)) ≡ at = rw (eq-eqb v 0 z) (add-zero at) in
          let R₁ : Reads (field_at schema) s at (with_scalar i v g) r = rw p at R in
          rw (ap (λ (x : ℕ). with_scalar i x g) z ∙ same) at R₁
      by_value (no n) =
          let b : At s at (tag_bytes f 0 ++ varint_bytes v) rest = rw (ne_eqb v 0 n) at a in
          let R₁ : Reads (field_at schema) s (at + length (tag_bytes f 0 ++ varint_bytes v)) (with_scalar i v g) r = rw (ne_eqb v 0 n) at R in
          reads-next (field-forward schema) (with_scalar i v g, at + length (tag_bytes f 0 ++ varint_bytes v))
          (within b (omega (arith, length-append (tag_bytes f 0) (varint_bytes v), tag-count f 0))) (number_step schema g f low high i v e h b) R₁

module _ (schema : Schema) {s : List ℕ} (lent : length s < 2 ^ 64) {at : ℕ} {rest : List ℕ} {r : ToldMore Gathered} (g : Gathered) (f : ℕ) (low : 1 ≤ f) (high : f ≤ last_field) where
  pub reads-part : (role : Role) (l : List ℕ) (g' : Gathered) → role_of schema f ≡ role → judged role 2 g.field g.count ≡ given tt
      → with_added s (part_added role f (part_at at f l)) g ≡ given g' → At s at (part_bytes f l) rest
      → Reads (field_at schema) s (at + length (part_bytes f l)) g' r → Reads (field_at schema) s at g r
  reads-part role l g' e j k a R =
      let h : length l < 2 ^ 64 = omega (arith, inside a, joined_length (head_bytes f (length l)) l (part-is f l)) in
      reads-next (field-forward schema) (g', at + length (part_bytes f l)) (within a (part_count f l)) (part_step schema g f low high role l g' e j k h a) R

  pub reads-text : (i : ℕ) (l : List ℕ) → WellFormed l → role_of schema f ≡ Text i → with_text i no_part g ≡ g → At s at (field_bytes (text f l)) rest
      → Reads (field_at schema) s (at + length (field_bytes (text f l))) (with_text i (text_at at f l) g) r → Reads (field_at schema) s at g r
  unfolding field_bytes judged
  reads-text i l well e same a R = by_length (ℕ_discrete (length l) 0)
    where
      by_length : Dec (length l ≡ 0) → Reads (field_at schema) s at g r
      by_length (yes z) =
          let p : at + length (field_bytes (text f l)) ≡ at = rw (eq-eqb (length l) 0 z) (add-zero at) in
          let q : text_at at f l ≡ no_part = rw (eq-eqb (length l) 0 z) in
          let R₁ : Reads (field_at schema) s at (with_text i (text_at at f l) g) r = rw p at R in
          rw (ap (λ (x : Part). with_text i x g) q ∙ same) at R₁
      by_length (no n) =
          let q : text_at at f l ≡ part_at at f l = rw (ne_eqb (length l) 0 n) in
          let R₁ : Reads (field_at schema) s (at + length (field_bytes (text f l))) (with_text i (part_at at f l) g) r = rw q at R in
          let b : At s at (part_bytes f l) rest = rw (ne_eqb (length l) 0 n) at a in
          let there = part-there f l b in
          let bad : length l ≡ bad_place (bytes_of s (part_at at f l)) = sym (ap bad_place (taken there) ∙ well-formed-whole l well) in
          reads-part (Text i) l (with_text i (part_at at f l) g) e refl (string-taken s f i (part_at at f l) g (length l) (omega (arith, inside there)) bad refl) b (rw (ne_eqb (length l) 0 n) at R₁)

  pub reads-packed : (ts : List ℤ) → role_of schema f ≡ Transports → AllSigned32 ts → g.count + length ts ≤ 8 → At s at (field_bytes (packed f (map extended ts))) rest
      → Reads (field_at schema) s (at + length (field_bytes (packed f (map extended ts)))) (with_transports ts g) r → Reads (field_at schema) s at g r
  unfolding judged packed_from
  reads-packed ts e fs h a R = by_length (ℕ_discrete (length ts) 0)
    where
      by_length : Dec (length ts ≡ 0) → Reads (field_at schema) s at g r
      by_length (yes z) =
          let p : at + length (field_bytes (packed f (map extended ts))) ≡ at = rw (packed_none f ts z) (add-zero at) in
          let R₁ : Reads (field_at schema) s at (with_transports ts g) r = rw p at R in
          rw (empty ts z) at R₁
        where
          empty : (l : List ℤ) → length l ≡ 0 → with_transports l g ≡ g
          empty [] z = no-transports g
          empty (x ∷ l) z = absurd (let o : ◌≡◌ {A = ℕ} 0 1 = omega arith in omega arith)
      by_length (no n) =
          let l = varints_bytes (map extended ts) in
          let w : field_bytes (packed f (map extended ts)) ≡ part_bytes f l = sym (packed-some f ts n) ∙ part-is f l in
          let b : At s at (part_bytes f l) rest = rw w at a in
          reads-part Transports l (with_transports ts g) e refl (ap alone ((reads-entries ts g fs h (part_cut f l b)).runs (length (take ((part_at at f l).start + length l) s)) (omega arith))) b (rw w at R)

  -- a member, of a role that is one
  pub reads-member : (role : Role) (l : List ℕ) → role_of schema f ≡ role → judged role 2 g.field g.count ≡ given tt
      → with_added s (part_added role f (part_at at f l)) g ≡ given (with_member f (part_at at f l) g) → At s at (field_bytes (nested f l)) rest
      → Reads (field_at schema) s (at + length (field_bytes (nested f l))) (with_member f (part_at at f l) g) r → Reads (field_at schema) s at g r
  unfolding field_bytes
  reads-member role l e j k a R = reads-part role l (with_member f (part_at at f l) g) e j k a R

-- ---- the whole message, and the bytes of its parts
pub fields_read : (schema : Schema) (s : List ℕ) (at : ℕ) {r : ToldMore Gathered} → Reads (field_at schema) s at nothing r → fields_from schema s at ≡ r
unfolding fields_from
fields_read schema s at R = R.runs (length s) (omega arith)

pub text-back : {s : List ℕ} {at : ℕ} {rest : List ℕ} (f : ℕ) (l : List ℕ) → At s at (field_bytes (text f l)) rest → bytes_of s (text_at at f l) ≡ l
text-back {s} {at} {rest} f l a = by_length (ℕ_discrete (length l) 0)
  where
    empty : (x : List ℕ) → length x ≡ 0 → [] ≡ x
    empty [] z = refl
    empty (y ∷ x) z = absurd (let o : ◌≡◌ {A = ℕ} 0 1 = omega arith in omega arith)

    by_length : Dec (length l ≡ 0) → bytes_of s (text_at at f l) ≡ l
    by_length (yes z) = rw (eq-eqb (length l) 0 z) (empty l z)
    by_length (no n) = rw (ne_eqb (length l) 0 n) (taken (part-there f l (rw (sym (text-some f l n)) at a)))
