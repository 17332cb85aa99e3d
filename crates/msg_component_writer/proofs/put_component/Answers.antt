use native.Mathlib.Omega.{arith}
use lib.ListN.{length}
use Rattle.proto_writer.specs.Writer.{head_bytes, message_bytes}
use Rattle.proto_writer.proofs.Runs.{put_then}
use Rattle.proto_schema.specs.Schema.{components_field}
use Rattle.msg_component_writer.specs.Component.{component_fields}
use Rattle.proto_writer.proofs.Rooms.{nested_is, nested-length}
use borrow.Author.Rules.{rules}
use Rattle.msg_component_writer.proofs.put_component.Goals as goal

pub component_len-len-requires : goal.component_len-len-requires
component_len-len-requires c =
    let l = message_bytes (component_fields c.args.texts.now c.args.component) in
    (c.requires.0, omega (arith, c.requires.1, nested-length components_field l))

pub put_head-start-requires : goal.put_head-start-requires
put_head-start-requires c =
    let l = message_bytes (component_fields c.args.texts.now c.args.component) in
    (search rules, rw c.component_len-len.ensures (omega (arith, c.requires.1, nested-length components_field l)))

pub put_component_fields-requires : goal.put_component_fields-requires
put_component_fields-requires c =
    let l = message_bytes (component_fields c.args.texts.now c.args.component) in
    (c.requires.0, omega (arith, c.requires.1, nested-length components_field l, rw c.component_len-len.ensures at c.put_head-start.ensures.place, c.put_head-start.auto.out))

pub returns : goal.returns
returns c =
    let l = message_bytes (component_fields c.args.texts.now c.args.component) in
    put_then (head_bytes components_field (length l)) l (nested_is components_field l) (rw c.component_len-len.ensures at c.put_head-start.ensures) c.put_component_fields.ensures
