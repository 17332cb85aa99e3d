use Prim.Native.Nat.{◌≤◌}
use mathlib.Core.Path.{◌≡◌}
use lib.ListN.{length, drop}
use Rattle.msg_apply_writer.specs.Information.{bad_components}
use Rattle.msg_apply_writer.proofs.information.bad_components.Given as goal

abbrev pub invariant-loop-component : goal.invariant-loop-component
invariant-loop-component l = (l.component-index ≤ length l.components) × (bad_components l.texts l.components ≡ bad_components l.texts (drop l.component-index l.components))
