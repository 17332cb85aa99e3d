-- The round trips of the four messages.
use Prim.Native.Nat.{ℕ, ◌+◌, ◌≤◌, ◌<◌, ◌^◌}
use mathlib.Core.Path.{◌≡◌, refl, ap, sym, subst, ◌∙◌}
use mathlib.Core.Bool.{Bool, false}
use mathlib.Core.List.{List, [], ◌∷◌, ◌++◌, map}
use native.Mathlib.Nat.{zero-add}
use native.Mathlib.Omega.{arith}
use lib.IntN.{ℤ, pos}
use lib.ListN.{length, replicate}
use lib.Seq.{sets, take_all}
use lib.Dec.{eqb, ltb}
use borrow.Author.Tests.{ne_eqb, le-ltb, eqb-false}
use Rattle.wire.specs.Told.{Told, ToldMore, given, refused, and_then, Written, WrittenOf}
use Rattle.proto_strings.specs.Texts.{AllWellFormed, writes_texts}
use Rattle.proto_strings.proofs.Texts.{well-faultless, texts-wrote}
use Rattle.wire.proofs.Stores.{first-bytes}
use Rattle.wire.proofs.Tests.{or-false}
use Rattle.proto_field.specs.declared.value.Part.{Part}
use Rattle.proto_field.specs.Signed.{extended}
use Rattle.proto_field.specs.Tag.{last_field}
use Rattle.proto_writer.specs.Writer.{Field, scalar, text, packed, nested, part_bytes, field_bytes, message_bytes}
use Rattle.proto_schema.specs.declared.Schema.{Schema}
use Rattle.proto_schema.specs.declared.Schema.TheVariants as Schema
use Rattle.proto_schema.specs.declared.Role.{Role}
use Rattle.proto_schema.specs.declared.Role.TheVariants as Role
use Rattle.msg_device.specs.declared.features.DeviceFeatures.{DeviceFeatures}
use Rattle.std.specs.Prelude.{Option, Some, None}
use Rattle.msg_control.specs.declared.response.Response.{Response}
use Rattle.msg_control.specs.declared.envelope.Envelope.{Envelope}
use Rattle.msg_control.specs.declared.envelope.Payload.{Payload}
use Rattle.msg_control.specs.declared.envelope.Payload.TheVariants as Payload
use Rattle.msg_control.specs.declared.envelope.EnvelopePayload.{EnvelopePayload}
use Rattle.msg_control.specs.declared.envelope.EnvelopePayload.TheVariants as Sent
use Rattle.proto_schema.specs.Schema.{role_of, response_field, serial_number_field, name_field, transports_field, device_type_field, features_field, device_attributes_field}
use Rattle.proto_reader.specs.Gathered.{nothing, with_scalar, with_text, with_member}
use Rattle.proto_reader.specs.Walk.{judged, part_added, with_added, fields_from}
use Rattle.proto_writer.specs.Message.{writes_message, bad_member}
use Rattle.proto_writer.proofs.Messages.{wrote, member-above, member-fits}
use Rattle.msg_control.specs.Response.{response_from, response_fields, bad_response_payload, response_written}
use Rattle.msg_control.specs.Envelope.{payload_of, envelope_of, envelope_fields, bad_payload, envelope_written}
use Rattle.msg_device.specs.Features.{features_of, features_fields, features_written}
use Rattle.msg_device.specs.Information.{information_of, information_strings, information_fields, information_written}
use Rattle.msg_claims.specs.RoundTrip.{Signed32, AllSigned32, MemberNumber, Gives, ReadsBack, NoneRefused, inner_bytes, response_contents, response_again, InnerNumbered, payload_bytes, CodeSigned32, PayloadNumbered, envelope_contents, envelope_again, information_again, ResponseRoundTrip, EnvelopeRoundTrip, FeaturesRoundTrip, InformationRoundTrip}
use Rattle.msg_claims.proofs.Values.{At, whole, front, behind, last, taken, signed-trip, extended_fits}
use Rattle.msg_claims.proofs.Fields.{reads_end, reads-scalar, reads-text, reads-packed, reads-member, part_at, part-there, text_at, with_transports, fields_read, text-back}

-- with arguments in range and room enough, a writer gives what a reader reads in its fields' bytes
pub reads-back : {A : Type 0} (bad : Bool) (fields : List Field) (out : List ℕ) (read : List ℕ → Told A) (a : A) → bad ≡ false
    → length (message_bytes fields) ≤ length out → read (message_bytes fields) ≡ given a → ReadsBack (writes_message bad fields out) read a
reads-back bad fields out read a b h e =
    let bytes = message_bytes fields in
    subst (λ (w : Written ℕ). ReadsBack w read a) (wrote bad fields out {n = length bytes} {l = sets out 0 bytes} b h (record { place = sym (zero-add (length bytes)); stored = refl }))
    (ap read (first-bytes out bytes h) ∙ e)

-- the same of a writer of strings that are well formed
pub texts-back : {A : Type 0} (bad : Bool) (strings : List (ℕ × List ℕ)) (fields : List Field) (out : List ℕ) (read : List ℕ → ToldMore A) (a : A) → bad ≡ false → AllWellFormed strings
    → length (message_bytes fields) ≤ length out → read (message_bytes fields) ≡ given a → ReadsBack (writes_texts bad strings fields out) read a
texts-back bad strings fields out read a b well h e =
    let bytes = message_bytes fields in
    let w = wrote bad fields out {n = length bytes} {l = sets out 0 bytes} b h (record { place = sym (zero-add (length bytes)); stored = refl }) in
    subst (λ (w : WrittenOf (ℕ × List ℕ) ℕ). ReadsBack w read a) (texts-wrote bad strings fields out (given (length bytes)) (sets out 0 bytes) b (well-faultless strings well) w)
    (ap read (first-bytes out bytes h) ∙ e)

-- a message of these fields is read up to its end
pub done : {s : List ℕ} {at : ℕ} (l : List ℕ) → At s at (l ++ []) [] → length s ≤ at + length l
done l a = omega (arith, last (behind l [] a))

pub features-read : (f : DeviceFeatures) (s : List ℕ) → f.features < 2 ^ 64 → f.device_attributes < 2 ^ 64 → At s 0 (message_bytes (features_fields f)) [] → features_of s ≡ given f
unfolding features_of role_of
features-read f s h₁ h₂ a =
    let b₁ = field_bytes (scalar features_field f.features) in
    let b₂ = field_bytes (scalar device_attributes_field f.device_attributes) in
    let c = behind b₁ (b₂ ++ []) a in
    rw (fields_read Schema.Features s 0
    (reads-scalar Schema.Features nothing features_field (omega arith) (omega arith) 0 f.features refl h₁ refl (front b₁ (b₂ ++ []) a)
    (reads-scalar Schema.Features (with_scalar 0 f.features nothing) device_attributes_field (omega arith) (omega arith) 1 f.device_attributes refl h₂ refl (front b₂ [] c)
    (reads_end (done b₂ c)))))

pub features-round-trip : FeaturesRoundTrip
unfolding FeaturesRoundTrip features_written
features-round-trip f out t =
    reads-back false (features_fields f) out features_of f refl (omega (arith, t.room))
    (features-read f (message_bytes (features_fields f)) (omega (arith, t.first)) (omega (arith, t.second)) (whole (message_bytes (features_fields f))))

-- ---- device information
pub information-read : (serial name : List ℕ) (ts : List ℤ) (kind s : List ℕ) → AllWellFormed (information_strings serial name kind) → AllSigned32 ts → length ts ≤ 8 → length s < 2 ^ 64
    → At s 0 (message_bytes (information_fields serial name ts kind)) []
    → information_again s ≡ given (serial, name, ts, kind)
unfolding information_of role_of
information-read serial name ts kind s well fs h lent a =
    let b₁ = field_bytes (text serial_number_field serial) in
    let b₂ = field_bytes (text name_field name) in
    let b₃ = field_bytes (packed transports_field (map extended ts)) in
    let b₄ = field_bytes (text device_type_field kind) in
    let a₂ = behind b₁ (b₂ ++ (b₃ ++ (b₄ ++ []))) a in
    let a₃ = behind b₂ (b₃ ++ (b₄ ++ [])) a₂ in
    let a₄ = behind b₃ (b₄ ++ []) a₃ in
    let p₁ = text_at 0 serial_number_field serial in
    let p₂ = text_at (0 + length b₁) name_field name in
    let p₄ = text_at (0 + length b₁ + length b₂ + length b₃) device_type_field kind in
    let g₁ = with_text 0 p₁ nothing in
    let g₂ = with_text 1 p₂ g₁ in
    let g₃ = with_transports ts g₂ in
    let all : fields_from Schema.Information s 0 ≡ given (with_text 2 p₄ g₃) =
    fields_read Schema.Information s 0
    (reads-text Schema.Information lent nothing serial_number_field (omega arith) (omega arith) 0 serial well.0 refl refl (front b₁ (b₂ ++ (b₃ ++ (b₄ ++ []))) a)
    (reads-text Schema.Information lent g₁ name_field (omega arith) (omega arith) 1 name well.1.0 refl refl (front b₂ (b₃ ++ (b₄ ++ [])) a₂)
    (reads-packed Schema.Information lent g₂ transports_field (omega arith) (omega arith) ts refl fs (omega arith) (front b₃ (b₄ ++ []) a₃)
    (reads-text Schema.Information lent g₃ device_type_field (omega arith) (omega arith) 2 kind well.1.1.0 refl refl (front b₄ [] a₄)
    (reads_end (done b₄ a₄)))))) in
    rw (
      all,
      text-back serial_number_field serial (front b₁ (b₂ ++ (b₃ ++ (b₄ ++ []))) a),
      text-back name_field name (front b₂ (b₃ ++ (b₄ ++ [])) a₂),
      zero-add (length ts),
      first-bytes (replicate 8 (pos 0)) ts h,
      text-back device_type_field kind (front b₄ [] a₄),
    )

pub information-round-trip : InformationRoundTrip
unfolding InformationRoundTrip information_written
information-round-trip serial name ts kind out t =
    let fields = information_fields serial name ts kind in
    texts-back (ltb 8 (length ts)) (information_strings serial name kind) fields out information_again (serial, name, ts, kind) (le-ltb 8 (length ts) (omega (arith, t.most))) t.strings (omega (arith, t.room))
    (information-read serial name ts kind (message_bytes fields) t.strings t.signed (omega (arith, t.most)) (omega (arith, t.room, t.lent)) (whole (message_bytes fields)))

-- ---- a scalar in field 1, alone or before a member: the envelope and the response
module _ (schema : Schema) (v : ℕ) (small : v < 2 ^ 64) (first : role_of schema 1 ≡ Role.Scalar 0) {s : List ℕ} {at : ℕ} where
  scalar-alone : At s at (message_bytes (scalar 1 v ∷ [])) [] → fields_from schema s at ≡ given (with_scalar 0 v nothing)
  scalar-alone a =
      let b = field_bytes (scalar 1 v) in
      fields_read schema s at (reads-scalar schema nothing 1 (omega arith) (omega arith) 0 v first small refl (front b [] a) (reads_end (done b a)))

  scalar-then : (role : Role) (f : ℕ) (l : List ℕ) → 1 ≤ f → f ≤ last_field → length s < 2 ^ 64 → role_of schema f ≡ role → judged role 2 0 0 ≡ given tt
      → ((p : Part) → with_added s (part_added role f p) (with_scalar 0 v nothing) ≡ given (with_member f p (with_scalar 0 v nothing)))
      → At s at (message_bytes (scalar 1 v ∷ nested f l ∷ [])) []
      → fields_from schema s at ≡ given (with_member f (part_at (at + length (field_bytes (scalar 1 v))) f l) (with_scalar 0 v nothing))
  scalar-then role f l low high lent e j k a =
      let b₁ = field_bytes (scalar 1 v) in
      let b₂ = field_bytes (nested f l) in
      let c = behind b₁ (b₂ ++ []) a in
      fields_read schema s at
      (reads-scalar schema nothing 1 (omega arith) (omega arith) 0 v first small refl (front b₁ (b₂ ++ []) a)
      (reads-member schema lent (with_scalar 0 v nothing) f low high role l e j (k (part_at (at + length b₁) f l)) (front b₂ [] c) (reads_end (done b₂ c))))

-- the bytes of a member that stands after a scalar
member-there : {s : List ℕ} {at : ℕ} (v f : ℕ) (l : List ℕ) → At s at (message_bytes (scalar 1 v ∷ nested f l ∷ [])) []
    → At s (part_at (at + length (field_bytes (scalar 1 v))) f l).start l []
unfolding field_bytes
member-there v f l a = part-there f l (front (part_bytes f l) [] (behind (field_bytes (scalar 1 v)) (part_bytes f l ++ []) a))

-- ---- the response
response-read : (code : ℤ) (payload : Option ℕ) (body s : List ℕ) (at : ℕ) → Signed32 code → bad_response_payload payload ≡ false → length s < 2 ^ 64
    → At s at (message_bytes (response_fields (extended code) payload body)) []
    → and_then (response_from s at) (λ r. given (response_contents s r)) ≡ given (code, payload, inner_bytes payload body)
unfolding response_from role_of judged
response-read code None body s at fz b lent a =
    rw (scalar-alone Schema.Response (extended code) (extended_fits code fz) refl a, signed-trip code fz)
response-read code (Some f) body s at fz b lent a =
    let h : 2 ≤ f = member-above f b in
    let n : f ≡ 1 → ⊥ = λ e. omega arith in
    rw (
      scalar-then Schema.Response (extended code) (extended_fits code fz) refl Role.Member f body (omega arith) (member-fits f b) lent (rw (ne_eqb f 1 n)) refl (λ p. refl) a,
      signed-trip code fz,
      ne_eqb f 0 (λ e. omega arith),
      taken (member-there (extended code) f body a),
    )

-- the numbers of members that are taken
pub member-fine : (f : ℕ) → MemberNumber f → bad_member f ≡ false
member-fine f h = rw (le-ltb f 2 (omega arith), le-ltb last_field f (omega arith))

inner-fine : (payload : Option ℕ) → InnerNumbered payload → bad_response_payload payload ≡ false
inner-fine None h = refl
inner-fine (Some f) h = member-fine f h

pub response-round-trip : ResponseRoundTrip
unfolding ResponseRoundTrip response_written
response-round-trip code payload body out t =
    let fields = response_fields (extended code) payload body in
    let fine = inner-fine payload t.numbered in
    reads-back (bad_response_payload payload) fields out response_again (code, payload, inner_bytes payload body) fine (omega (arith, t.room))
    (response-read code payload body (message_bytes fields) 0 t.signed fine (omega (arith, t.room, t.lent)) (whole (message_bytes fields)))

-- ---- the envelope
-- an envelope with this command
abbrev opened : ℤ → Payload → Told Envelope
opened z p = given (record { command = z; payload = p })

-- a response that is read within an envelope
within-envelope : (z : ℤ) (s : List ℕ) (r : Told Response) (code : ℤ) (payload : Option ℕ) (l : List ℕ)
    → and_then r (λ x. given (response_contents s x)) ≡ given (code, payload, l)
    → and_then (and_then (and_then r (λ x. given (Payload.Response x))) (λ p. opened z p)) (λ e. given (envelope_contents s e)) ≡ given (z, (Sent.Response code payload, l))
within-envelope z s (given x) code payload l e =
    let h : response_contents s x ≡ (code, payload, l) = cc in
    ap (λ (y : ℤ × Option ℕ × List ℕ). given (z, (Sent.Response y.0 y.1, y.2))) h
within-envelope z s (refused n) code payload l e = absurd (let o : ◌≡◌ {A = ℕ} 0 1 = cc in omega arith)

pub envelope-read : (z : ℤ) (payload : EnvelopePayload) (body s : List ℕ) → Signed32 z → CodeSigned32 payload → bad_payload payload ≡ false → length s < 2 ^ 64
    → At s 0 (message_bytes (envelope_fields (extended z) payload body)) []
    → envelope_again s ≡ given (z, (payload, payload_bytes payload body))
unfolding envelope_of payload_of role_of judged
envelope-read z Sent.None body s fz fc b lent a = rw (scalar-alone Schema.Envelope (extended z) (extended_fits z fz) refl a, signed-trip z fz)
envelope-read z (Sent.Response code payload) body s fz fc b lent a =
    let v = extended z in
    let inner = message_bytes (response_fields (extended code) payload body) in
    let there = member-there v response_field inner a in
    let start = (part_at (0 + length (field_bytes (scalar 1 v))) response_field inner).start in
    rw (
      scalar-then Schema.Envelope v (extended_fits z fz) refl Role.Nested response_field inner (omega arith) (omega arith) lent refl refl (λ p. refl) a,
      signed-trip z fz,
      take_all (start + length inner) s (last there),
    )
    (within-envelope z s (response_from s start) code payload (inner_bytes payload body) (response-read code payload body s start fc b lent there))
envelope-read z (Sent.Member f) body s fz fc b lent a =
    let v = extended z in
    let m = or-false (bad_member f) (eqb f response_field) b in
    let h : 2 ≤ f = member-above f m.0 in
    let n₀ : f ≡ 0 → ⊥ = λ e. omega arith in
    let n₁ : f ≡ 1 → ⊥ = λ e. omega arith in
    let n₉ : f ≡ 9 → ⊥ = eqb-false f 9 m.1 in
    rw (
      scalar-then Schema.Envelope v (extended_fits z fz) refl Role.Member f body (omega arith) (member-fits f m.0) lent (rw (ne_eqb f 1 n₁, ne_eqb f 9 n₉)) refl (λ p. refl) a,
      ne_eqb f 0 n₀,
      ne_eqb f 9 n₉,
      signed-trip z fz,
      taken (member-there v f body a),
    )

payload-fine : (payload : EnvelopePayload) → PayloadNumbered payload → bad_payload payload ≡ false
payload-fine Sent.None h = refl
payload-fine (Sent.Response code payload) h = inner-fine payload h
payload-fine (Sent.Member f) h = rw (member-fine f h.0, ne_eqb f response_field h.1)

pub envelope-round-trip : EnvelopeRoundTrip
unfolding EnvelopeRoundTrip envelope_written
envelope-round-trip z payload body out t =
    let fields = envelope_fields (extended z) payload body in
    let fine = payload-fine payload t.numbered in
    reads-back (bad_payload payload) fields out envelope_again (z, (payload, payload_bytes payload body)) fine (omega (arith, t.room))
    (envelope-read z payload body (message_bytes fields) t.signed t.code fine (omega (arith, t.room, t.lent)) (whole (message_bytes fields)))

-- ---- what refuses reads nothing back
pub none-refused : NoneRefused
unfolding NoneRefused
none-refused = (λ n out read a h. h, λ w n a h. by-told n a w.told h)
  where
    by-told : (n : ℕ) (a : List ℕ) (t : Told ℕ) → Gives t (λ k. ◌≡◌ {A = Told (List ℕ)} (refused n) (given a)) → ⊥
    by-told n a (given k) h = let z : ◌≡◌ {A = ℕ} 0 1 = cc in omega arith
    by-told n a (refused k) h = h
