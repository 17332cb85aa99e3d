use Prim.Native.Nat.{◌-◌, ◌≤◌}
use mathlib.Core.Path.{◌≡◌, sym, ap, ◌∙◌}
use native.Mathlib.Omega.{arith}
use lib.ListN.{length}
use Rattle.proto_writer.specs.Writer.{nested, head_bytes, field_bytes, message_bytes}
use Rattle.proto_schema.specs.Schema.{components_field}
use Rattle.msg_component_writer.specs.Component.{component_fields}
use Rattle.proto_writer.proofs.Rooms.{room-rest, nested-short, nested-length, last-room}
use Rattle.msg_component_writer.proofs.room_after_component.Goals.{In_ok-rest}
use Rattle.msg_component_writer.proofs.room_after_component.Goals as goal

-- what a component leaves of the room
spent : (c : In_ok-rest) →
    let n = length (message_bytes (component_fields c.args.texts.now c.args.component)) in
    (c.in_ok-rest.rest ≡ c.args.len - n) × (n ≤ c.args.len)
spent c =
    let n = length (message_bytes (component_fields c.args.texts.now c.args.component)) in
    room-rest c.args.len n c.in_ok-rest.rest (sym c.in_ok-rest.ensures)

pub returns-in_err-rest : goal.returns-in_err-rest
returns-in_err-rest c =
    rw c.from_residual.ensures
    (nested-short components_field c.args.len (message_bytes (component_fields c.args.texts.now c.args.component)) (sym c.in_err-rest.ensures))

pub returns : goal.returns
returns c =
    let l = message_bytes (component_fields c.args.texts.now c.args.component) in
    let s = spent (goal.at.returns c).In_ok-rest in
    let n : c.args.len - c.in_ok-rest.rest ≡ length l = omega (arith, s) in
    let h : c.head_len.result ≡ length (head_bytes components_field (length l)) = c.head_len.ensures.0 ∙ ap (λ x. length (head_bytes components_field x)) n in
    last-room c.args.len c.in_ok-rest.rest c.head_len.result (length (field_bytes (nested components_field l))) c.checked_sub.result
    (omega (arith, s, h, nested-length components_field l)) c.checked_sub.ensures
