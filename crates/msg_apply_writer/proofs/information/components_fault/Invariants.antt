use Prim.Native.Nat.{◌≤◌}
use mathlib.Core.Path.{◌≡◌}
use mathlib.Core.Bool.{false}
use lib.ListN.{length, drop}
use Rattle.proto_strings.specs.Texts.{first_fault}
use Rattle.msg_apply_writer.specs.Information.{bad_components, components_strings}
use Rattle.msg_apply_writer.proofs.information.components_fault.Given as goal

abbrev pub invariant-loop-component : goal.invariant-loop-component
invariant-loop-component l =
    (l.component-index ≤ length l.components) × (bad_components l.texts (drop l.component-index l.components) ≡ false)
    × (first_fault (components_strings l.texts l.components) ≡ first_fault (components_strings l.texts (drop l.component-index l.components)))
