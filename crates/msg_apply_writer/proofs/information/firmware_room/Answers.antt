use mathlib.Core.List.{map}
use mathlib.Core.Path.{sym}
use native.Mathlib.Omega.{arith}
use lib.ListN.{length}
use Rattle.proto_writer.specs.Writer.{message_bytes}
use Rattle.msg_component_writer.specs.Component.{component_field}
use Rattle.msg_apply_writer.specs.Information.{present}
use Rattle.msg_apply_writer.proofs.Texts.{firmware-fine, firmware-length}
use Rattle.proto_writer.proofs.Messages.{room-short}
use Rattle.proto_writer.proofs.Rooms.{no-room, last-room, room-rest}
use borrow.Author.Rules.{rules}
use Rattle.msg_apply_writer.proofs.information.firmware_room.Goals as goal

pub text_part_len-requires : goal.text_part_len-requires
text_part_len-requires c =
    (search rules, (firmware-fine c.args.texts.now c.args.information c.requires).name)

pub shared_ref_as_front-components_room : goal.shared_ref_as_front-components_room
shared_ref_as_front-components_room c = (firmware-fine c.args.texts.now c.args.information c.requires).most

pub components_room-requires : goal.components_room-requires
components_room-requires c = (firmware-fine c.args.texts.now c.args.information c.requires).components

pub text_part_len-requires-2 : goal.text_part_len-requires-2
text_part_len-requires-2 c =
    (search rules, (firmware-fine c.args.texts.now c.args.information c.requires).locale)

pub text_part_len-requires-3 : goal.text_part_len-requires-3
text_part_len-requires-3 c =
    (search rules, (firmware-fine c.args.texts.now c.args.information c.requires).version-name)

pub returns-in_err-components_room : goal.returns-in_err-components_room
returns-in_err-components_room c =
    let all = message_bytes (map (component_field c.args.texts.now) (present c.args.information)) in
    let short = room-short c.in_ok-before.before (length all) (sym c.in_err-components_room.ensures) in
    rw c.from_residual-in_err-components_room.ensures
    (no-room (omega (arith, firmware-length c.args.texts.now c.args.information, short, c.scalar_len.ensures.0, c.text_part_len.ensures, c.in_ok-checked_sub.ensures, c.in_ok-before.ensures)))

pub returns-in_err-checked_sub-2 : goal.returns-in_err-checked_sub-2
returns-in_err-checked_sub-2 c =
    let all = message_bytes (map (component_field c.args.texts.now) (present c.args.information)) in
    let left = room-rest c.in_ok-before.before (length all) c.in_ok-components_room.field-0 (sym c.in_ok-components_room.ensures) in
    rw c.from_residual-in_err-checked_sub-2.ensures
    (no-room (omega (arith, firmware-length c.args.texts.now c.args.information, left, c.scalar_len.ensures.0, c.text_part_len.ensures, c.text_part_len-2.ensures, c.in_ok-checked_sub.ensures, c.in_ok-before.ensures, c.in_err-checked_sub-2.ensures)))

pub returns : goal.returns
returns c =
    let all = message_bytes (map (component_field c.args.texts.now) (present c.args.information)) in
    let left = room-rest c.in_ok-before.before (length all) c.in_ok-components_room.field-0 (sym c.in_ok-components_room.ensures) in
    last-room c.args.len c.in_ok-checked_sub-2.field-0 c.text_part_len-3.result _ c.checked_sub-4.result
    (omega (arith, firmware-length c.args.texts.now c.args.information, left, c.scalar_len.ensures.0, c.text_part_len.ensures, c.text_part_len-2.ensures, c.text_part_len-3.ensures, c.in_ok-checked_sub.ensures, c.in_ok-before.ensures, c.in_ok-checked_sub-2.ensures))
    c.checked_sub-4.ensures
