-- Laws of one step: an entry and a field end after their place, all parts that are gathered lie within the message, and all strings are well formed.
use Prim.Native.Nat.{ℕ, ◌+◌, ◌≤◌, ◌<◌, zero-le}
use mathlib.Core.Path.{◌≡◌, refl, sym, ap, ◌∙◌}
use mathlib.Core.Bool.{true, ◌&&◌, not}
use mathlib.Core.List.{List}
use native.Mathlib.Omega.{arith}
use lib.Dec.{leb, eqb}
use lib.ListN.{length, take}
use borrow.Author.Tests.{leb-false, eqb-true}
use Rattle.wire.specs.Told.{Told, alone, given, refused, and_then}
use Rattle.wire.proofs.Tests.{by_cond}
use Rattle.proto_field.specs.declared.tag.FieldHead.{FieldHead}
use Rattle.proto_field.specs.declared.value.Part.{Part}
use Rattle.proto_field.specs.declared.value.Value.{Value}
use Rattle.proto_field.specs.declared.value.Value.TheVariants.{Number, Bytes, Skipped}
use Rattle.proto_field.specs.Varint.{varint_at}
use Rattle.proto_field.specs.Tag.{tag_at}
use Rattle.proto_field.specs.Value.{value_at, Within, value_parts, bytes_of}
use Rattle.utf8.specs.WellFormed.{empty, bad_place}
use Rattle.utf8.proofs.Places.{whole-well-formed}
use Rattle.proto_field.proofs.Told.{Sat, sat-any, sat-then, sat-given}
use Rattle.proto_field.proofs.Varints.{Ends, varint-ends}
use Rattle.proto_field.proofs.Places.{tag-ends, Held, value-held, within-set}
use Rattle.proto_schema.specs.declared.Schema.{Schema}
use Rattle.proto_schema.specs.declared.Role.{Role}
use Rattle.proto_schema.specs.declared.Role.TheVariants.{Scalar, Text, Transports, Nested, Repeated, Member, Unknown}
use Rattle.proto_reader.specs.declared.gathered.Gathered.{Gathered}
use Rattle.proto_reader.specs.Gathered.{most_transports, most_repeated, nothing, parts_gathered, with_text, with_transport, AllText}
use Rattle.proto_schema.specs.Schema.{role_of, fits_role, is_member, is_repeated}
use Rattle.proto_reader.specs.declared.reader.Added.{Added}
use Rattle.proto_reader.specs.Walk.{placed, entry_at, packed_from, judged, value_added, added_at, read_at, with_string, with_added, field_at, fields_from, added_parts, Counts, AddsWithin}
use Rattle.proto_reader.proofs.Walks.{Forward, walk-keeps}
use Rattle.proto_reader.proofs.Strings.{text-set}

-- nothing goes with the number
sat-alone : {A : Type 0} (P : A → Type 0) (r : Told A) → Sat P r → Sat P (alone r)
sat-alone P (given a) h = h
sat-alone P (refused n) h = tt

pub entry-forward : Forward entry_at
unfolding entry_at
entry-forward s at g q e =
    let Q : Gathered × ℕ → Type 0 = λ x. at < x.1 in
    sat-given Q (entry_at s at g) q
    (sat-then (Ends at (length s)) Q (varint_at s at) _ (varint-ends s at)
    (λ p h. sat-then (λ (x : Gathered). Unit {0}) Q (with_transport p.0 g) _ (sat-any (with_transport p.0 g)) (λ x u. h.0)))
    e

-- ---- what a field adds: it ends after its place, and its parts lie within the message
value-within : (s : List ℕ) (role : Role) (field : ℕ) (v : Value) → Within s (value_parts v) → Within s (added_parts (value_added role field v))
value-within s (Scalar i) field (Number v) h = tt
value-within s (Text i) field (Number v) h = tt
value-within s Transports field (Number v) h = tt
value-within s Nested field (Number v) h = tt
value-within s Repeated field (Number v) h = tt
value-within s Member field (Number v) h = tt
value-within s Unknown field (Number v) h = tt
value-within s (Scalar i) field (Bytes p) h = tt
value-within s (Text i) field (Bytes p) h = h
value-within s Transports field (Bytes p) h = h
value-within s Nested field (Bytes p) h = h
value-within s Repeated field (Bytes p) h = tt
value-within s Member field (Bytes p) h = h
value-within s Unknown field (Bytes p) h = tt
value-within s role field (Skipped p) h = tt

judged-counts : (role : Role) (wire member count : ℕ) → Sat (λ (u : Unit {0}). is_repeated role ≡ true → count < most_repeated) (judged role wire member count)
unfolding judged
judged-counts role wire member count =
    let P : Unit {0} → Type 0 = λ u. is_repeated role ≡ true → count < most_repeated in
    by_cond (Sat P) (not (fits_role role wire)) (refused 33) _ (λ _. tt)
    (λ _. by_cond (Sat P) (is_member role wire && not (eqb member 0)) (refused 34) _ (λ _. tt)
    (λ _. by_cond (Sat P) (is_repeated role && leb most_repeated count) (refused 34) (given tt) (λ _. tt)
    (λ t e. omega (arith, leb-false most_repeated count (sym (ap (λ b. b && leb most_repeated count) e) ∙ t)))))

value-counts : (count : ℕ) (role : Role) (field : ℕ) (v : Value) → (is_repeated role ≡ true → count < most_repeated) → Counts count (value_added role field v)
value-counts count (Scalar i) field (Number v) h = tt
value-counts count (Text i) field (Number v) h = tt
value-counts count Transports field (Number v) h = tt
value-counts count Nested field (Number v) h = tt
value-counts count Repeated field (Number v) h = tt
value-counts count Member field (Number v) h = tt
value-counts count Unknown field (Number v) h = tt
value-counts count (Scalar i) field (Bytes p) h = tt
value-counts count (Text i) field (Bytes p) h = tt
value-counts count Transports field (Bytes p) h = tt
value-counts count Nested field (Bytes p) h = tt
value-counts count Repeated field (Bytes p) h = h refl
value-counts count Member field (Bytes p) h = tt
value-counts count Unknown field (Bytes p) h = tt
value-counts count role field (Skipped p) h = tt

abbrev Adds : List ℕ → ℕ → ℕ → Added × ℕ → Type 0
Adds s at count q = (at < q.1) × AddsWithin s count q.0

read-adds : (schema : Schema) (s : List ℕ) (at member count : ℕ) → Sat (Adds s at count) (read_at schema s at member count)
unfolding read_at added_at
read-adds schema s at member count =
    let Q = Adds s at count in
    sat-then (λ (h : FieldHead). at < h.next) Q (tag_at s at) _ (tag-ends s at)
    (λ h l. sat-then (λ (u : Unit {0}). is_repeated (role_of schema h.field) ≡ true → count < most_repeated) Q (judged (role_of schema h.field) h.wire member count) _
    (judged-counts (role_of schema h.field) h.wire member count)
    (λ u w. sat-then (Held s h.next) Q (value_at s h.next h.wire) _ (value-held s h.next h.wire)
    (λ v k. (omega arith, (value-within s (role_of schema h.field) h.field v.0 k.1, value-counts count (role_of schema h.field) h.field v.0 w)))))

-- what a field adds can be gathered
pub read-fits : (schema : Schema) (s : List ℕ) (at member count : ℕ) (q : Added × ℕ) → read_at schema s at member count ≡ given q → AddsWithin s count q.0
read-fits schema s at member count q e =
    (sat-given (Adds s at count) (read_at schema s at member count) q (read-adds schema s at member count) e).1

-- a field, by what it adds
pub field-by : (schema : Schema) (s : List ℕ) (at : ℕ) (g : Gathered) {r : Told (Added × ℕ)} → read_at schema s at g.field g.count ≡ r
    → field_at schema s at g ≡ and_then (alone r) (λ a. and_then (with_added s a.0 g) (placed a.1))
unfolding field_at
field-by schema s at g e = ap (λ r. and_then (alone r) (λ a. and_then (with_added s a.0 g) (placed a.1))) e

pub field-forward : (schema : Schema) → Forward (field_at schema)
unfolding field_at
field-forward schema s at g q e =
    let Q : Gathered × ℕ → Type 0 = λ x. at < x.1 in
    sat-given Q (field_at schema s at g) q
    (sat-then (Adds s at g.count) Q (alone (read_at schema s at g.field g.count)) _ (sat-alone (Adds s at g.count) (read_at schema s at g.field g.count) (read-adds schema s at g.field g.count))
    (λ a h. sat-then (λ (x : Gathered). Unit {0}) Q (with_added s a.0 g) _ (sat-any (with_added s a.0 g)) (λ x u. h.0)))
    e

-- ---- all parts that are gathered lie within the message, at most eight were counted, and all strings are well formed
abbrev Inside : List ℕ → Gathered → Type 0
Inside s g = Within s (parts_gathered g) × (g.count ≤ most_transports) × AllText s g.texts

transport-inside : (s : List ℕ) (v : ℕ) (g : Gathered) → Inside s g → Sat (Inside s) (with_transport v g)
unfolding with_transport
transport-inside s v g w = by_cond (Sat (Inside s)) (leb 8 g.count) (refused 34) _ (λ _. tt) (λ t. (w.0, omega (arith, leb-false 8 g.count t), w.2))

entries-inside : (s t : List ℕ) (at : ℕ) (g : Gathered) → Inside s g → Sat (Inside s) (packed_from t at g)
unfolding packed_from entry_at
entries-inside s t at g w =
    let Q : Gathered × ℕ → Type 0 = λ q. Inside s q.0 in
    walk-keeps entry_at (Inside s) t
    (λ a x h. sat-then (λ (p : ℕ × ℕ). Unit {0}) Q (varint_at t a) _ (sat-any (varint_at t a))
    (λ p u. sat-then (Inside s) Q (with_transport p.0 x) _ (transport-inside s p.0 x h) (λ y k. k)))
    (length t) at g w

string-inside : (s : List ℕ) (field slot : ℕ) (p : Part) (g : Gathered) → p.start + p.len ≤ length s → Inside s g → Sat (Inside s) (with_string s field slot p g)
unfolding with_string
string-inside s field slot p g h w =
    by_cond (Sat (Inside s)) (eqb (bad_place (bytes_of s p)) (length (bytes_of s p))) (given (with_text slot p g)) _
    (λ t. ((w.0.0, within-set s g.texts slot p h w.0.1), w.1, text-set s g.texts slot p (whole-well-formed (bytes_of s p) (eqb-true (bad_place (bytes_of s p)) (length (bytes_of s p)) t)) w.2))
    (λ _. tt)

added-inside : (s : List ℕ) (a : Added) (g : Gathered) → Within s (added_parts a) → Counts g.count a → Inside s g → Sat (Inside s) (with_added s a g)
added-inside s Added.Nothing g h k w = w
added-inside s (Added.Scalar slot v) g h k w = w
added-inside s (Added.Text field slot p) g h k w = string-inside s field slot p g h.0 w
added-inside s (Added.Member field p) g h k w = ((h.0, w.0.1), w.1, w.2)
added-inside s Added.Repeated g h k w = (w.0, omega arith, w.2)
added-inside s (Added.Transport v) g h k w = sat-alone (Inside s) (with_transport v g) (transport-inside s v g w)
added-inside s (Added.Packed p) g h k w = sat-alone (Inside s) (packed_from (take (p.start + p.len) s) p.start g) (entries-inside s (take (p.start + p.len) s) p.start g w)

pub fields_within : (schema : Schema) (s : List ℕ) (at : ℕ) (g : Gathered) → fields_from schema s at ≡ given g
    → Within s (parts_gathered g) × (g.count ≤ most_transports) × AllText s g.texts
unfolding fields_from field_at
fields_within schema s at g e =
    let Q : Gathered × ℕ → Type 0 = λ q. Inside s q.0 in
    sat-given (Inside s) (fields_from schema s at) g
    (walk-keeps (field_at schema) (Inside s) s
    (λ a x w. sat-then (Adds s a x.count) Q (alone (read_at schema s a x.field x.count)) _ (sat-alone (Adds s a x.count) (read_at schema s a x.field x.count) (read-adds schema s a x.field x.count))
    (λ d h. sat-then (Inside s) Q (with_added s d.0 x) _ (added-inside s d.0 x h.1.0 h.1.1 w) (λ y k. k)))
    (length s) at nothing ((zero-le, (zero-le, (zero-le, (zero-le, tt)))), zero-le, (empty, (empty, (empty, tt)))))
    e
