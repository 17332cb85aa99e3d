-- The reply is its front and its member's bytes.
use Prim.Native.Nat.{ℕ, ◌+◌}
use native.Mathlib.Omega.{arith}
use native.Mathlib.Nat.{add-zero}
use mathlib.Core.Path.{◌≡◌, refl}
use mathlib.Core.List.{List, [], ◌++◌, append_assoc, append-nil}
use lib.IntN.{ℤ}
use lib.ListN.{length, length-append}
use Rattle.wire.specs.Put.{Put}
use Rattle.proto_field.specs.Signed.{extended}
use Rattle.proto_writer.specs.Writer.{scalar, head_bytes, part_bytes, field_bytes, message_bytes}
use Rattle.proto_writer.proofs.Runs.{put_then}
use Rattle.std.specs.Prelude.{Option, Some, None}
use Rattle.msg_control.specs.declared.envelope.EnvelopePayload.TheVariants as Sent
use Rattle.proto_schema.specs.Schema.{command_field, response_field, error_code_field}
use Rattle.msg_control.specs.Envelope.{envelope_fields}
use Rattle.reply_parts.specs.declared.front.ReplyFront.{ReplyFront}
use Rattle.reply_parts.specs.Front.{member_head, inner_length, front_bytes}

pub front_length : (f : ReplyFront)
    → length (front_bytes f)
    ≡ length (field_bytes (scalar command_field f.value)) + length (head_bytes response_field (inner_length f)) + length (field_bytes (scalar error_code_field f.code))
    + length (member_head f.member f.body)
unfolding front_bytes
front_length f = simp length-append

pub front-put : (f : ReplyFront) {l l₁ l₂ l₃ l₄ : List ℕ} {at n₁ n₂ n₃ n₄ : ℕ}
    → Put l at (field_bytes (scalar command_field f.value)) n₁ l₁
    → Put l₁ n₁ (head_bytes response_field (inner_length f)) n₂ l₂
    → Put l₂ n₂ (field_bytes (scalar error_code_field f.code)) n₃ l₃
    → Put l₃ n₃ (member_head f.member f.body) n₄ l₄
    → Put l at (front_bytes f) n₄ l₄
unfolding front_bytes
front-put f p q r s = put_then _ _ refl (put_then _ _ refl (put_then _ _ refl p q) r) s

-- a response with no member has no bytes
abbrev pub Whole : Option ℕ → List ℕ → Type 0
Whole None body = body ≡ []
Whole (Some field) body = Unit {0}

inner-is : (f : ReplyFront) → inner_length f ≡ length (field_bytes (scalar error_code_field f.code)) + (length (member_head f.member f.body) + f.body)
unfolding inner_length
inner-is f = omega arith

pub front-is : (value : ℕ) (code : ℤ) (member : Option ℕ) (body : List ℕ) → Whole member body
    → front_bytes (record { value = value; code = extended code; member = member; body = length body }) ++ body
    ≡ message_bytes (envelope_fields value (Sent.Response code member) body)
unfolding front_bytes field_bytes part_bytes
front-is value code None body e =
    rw (e, inner-is (record { value = value; code = extended code; member = None; body = 0 })) (simp (append_assoc, append-nil, add-zero))
front-is value code (Some field) body e =
    rw (inner-is (record { value = value; code = extended code; member = Some field; body = length body })) (simp (append_assoc, append-nil, length-append))
