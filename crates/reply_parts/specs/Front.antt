-- The reply in two runs: what stands before its member's bytes, and those.
use Rattle.std.specs.Prelude.{ℕ, ◌+◌, ◌<◌, ◌≡◌, false, List, [], ◌++◌, length, Option, Some, None}
use Rattle.proto_writer.specs.Writer.{scalar, head_bytes, field_bytes}
use Rattle.proto_schema.specs.Schema.{command_field, response_field, error_code_field}
use Rattle.msg_control.specs.Response.{bad_response_payload}
use Rattle.reply_parts.specs.declared.front.ReplyFront.{ReplyFront}

-- the tag and the length of the response's member, which has n bytes
abbrev pub member_head : Option ℕ → ℕ → List ℕ
member_head None n = []
member_head (Some field) n = head_bytes field n

-- the length of the response
unfoldable pub inner_length : ReplyFront → ℕ
inner_length f = length (field_bytes (scalar error_code_field f.code)) + length (member_head f.member f.body) + f.body

-- the command, the response's tag and length, its code, its member's tag and length
unfoldable pub front_bytes : ReplyFront → List ℕ
front_bytes f =
    field_bytes (scalar command_field f.value) ++ head_bytes response_field (inner_length f) ++ field_bytes (scalar error_code_field f.code)
    ++ member_head f.member f.body

-- a front that is written
pub record FrontFits (f : ReplyFront) : Type 0 where
  pub member : bad_response_payload f.member ≡ false
  pub body : f.body < 65536
