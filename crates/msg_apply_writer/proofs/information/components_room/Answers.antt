use Prim.Native.Nat.{◌+◌}
use mathlib.Core.Path.{refl, sym, ap, ◌∙◌}
use mathlib.Core.List.{map}
use native.Mathlib.Omega.{arith}
use lib.ListN.{length, drop, get_or}
use Rattle.std.specs.Prelude.{Some}
use Rattle.proto_writer.specs.Writer.{message_bytes}
use Rattle.proto_writer.specs.Message.{less_room}
use Rattle.msg_firmware.specs.Component.{no_component}
use Rattle.msg_component_writer.specs.Component.{component_field}
use Rattle.proto_writer.proofs.Rooms.{room-end, room-more}
use Rattle.msg_apply_writer.proofs.Texts.{components-fine}
use Rattle.msg_apply_writer.proofs.Listed.{listed_here, listed-end}
use borrow.Author.Rules.{rules}
use Rattle.msg_apply_writer.proofs.information.components_room.Goals as goal

pub loop-component-init : goal.loop-component-init
loop-component-init c = (search rules, c.requires, refl)

pub room_after_component-requires : goal.room_after_component-requires
room_after_component-requires c =
    let i = c.loop-component.component-index in
    let here = listed_here c.args.components.now i c.loop-component-test.true in
    (components-fine c.args.texts.now (get_or c.args.components.now i no_component) (drop (i + 1) c.args.components.now) (rw here at c.loop-component.invariant.1)).0

pub returns-in_err-left : goal.returns-in_err-left
returns-in_err-left c =
    let i = c.loop-component.component-index in
    let here = listed_here c.args.components.now i c.loop-component-test.true in
    let one = get_or c.args.components.now i no_component in
    let rest = drop (i + 1) c.args.components.now in
    let more = room-more (component_field c.args.texts.now one) (map (component_field c.args.texts.now) rest) (Some c.loop-component.left) refl c.in_err-left.ensures refl in
    rw c.from_residual.ensures
    (more ∙ sym (c.loop-component.invariant.2 ∙ ap (λ cs. less_room (length (message_bytes (map (component_field c.args.texts.now) cs))) (Some c.loop-component.left)) here))

pub loop-component-preserved : goal.loop-component-preserved
loop-component-preserved c =
    let i = c.loop-component.component-index in
    let here = listed_here c.args.components.now i c.loop-component-test.true in
    let one = get_or c.args.components.now i no_component in
    let rest = drop (i + 1) c.args.components.now in
    let more = room-more (component_field c.args.texts.now one) (map (component_field c.args.texts.now) rest) (Some c.loop-component.left) refl c.in_ok-left.ensures refl in (
      omega arith,
      (components-fine c.args.texts.now one rest (rw here at c.loop-component.invariant.1)).1,
      c.loop-component.invariant.2 ∙ ap (λ cs. less_room (length (message_bytes (map (component_field c.args.texts.now) cs))) (Some c.loop-component.left)) here ∙ sym more,
    )

pub returns : goal.returns
returns c =
    sym (c.loop-component.invariant.2 ∙ ap (λ cs. less_room (length (message_bytes (map (component_field c.args.texts.now) cs))) (Some c.loop-component.left)) (listed-end c.args.components.now c.loop-component.component-index c.loop-component-test.false) ∙ sym (room-end (Some c.loop-component.left)))
