-- What all components leave of the room is what those not yet counted leave of what is left.
use Prim.Native.Nat.{◌≤◌}
use mathlib.Core.Path.{◌≡◌}
use mathlib.Core.List.{map}
use mathlib.Core.Bool.{false}
use lib.ListN.{length, drop}
use Rattle.std.specs.Prelude.{Some}
use Rattle.proto_writer.specs.Writer.{message_bytes}
use Rattle.proto_writer.specs.Message.{less_room}
use Rattle.msg_component_writer.specs.Component.{component_field}
use Rattle.msg_apply_writer.specs.Information.{bad_components}
use Rattle.msg_apply_writer.proofs.information.components_room.Given as goal

abbrev pub invariant-loop-component : goal.invariant-loop-component
invariant-loop-component l =
    (l.component-index ≤ length l.components) × (bad_components l.texts (drop l.component-index l.components) ≡ false)
    × (less_room (length (message_bytes (map (component_field l.texts) l.components))) (Some l.initial.left) ≡ less_room (length (message_bytes (map (component_field l.texts) (drop l.component-index l.components)))) (Some l.left))
