-- The components written and those left join to the bytes of all of them, at every turn.
use Prim.Native.Nat.{ℕ, ◌+◌, ◌≤◌}
use mathlib.Core.Path.{◌≡◌}
use mathlib.Core.List.{List, map}
use mathlib.Core.Bool.{false}
use lib.ListN.{length, drop}
use lib.Seq.{sets}
use Rattle.proto_writer.specs.Writer.{Field, message_bytes}
use Rattle.msg_firmware.specs.declared.component.FirmwareComponent.{FirmwareComponent}
use Rattle.msg_component_writer.specs.Component.{component_field}
use Rattle.msg_apply_writer.specs.Information.{bad_components}
use Rattle.msg_apply_writer.proofs.information.put_components.Given as goal

-- the components from index i on, as fields
abbrev pub fields_at : List ℕ → List FirmwareComponent → ℕ → List Field
fields_at texts cs i = map (component_field texts) (drop i cs)

-- what is still to be written
pub record Left (out₀ : List ℕ) (from : ℕ) (texts : List ℕ) (cs : List FirmwareComponent) (out : List ℕ) (at i : ℕ) : Type 0 where
  pub inside : i ≤ length cs
  pub fine : bad_components texts (drop i cs) ≡ false
  pub long : length out ≡ length out₀
  pub place : from + length (message_bytes (fields_at texts cs 0)) ≡ at + length (message_bytes (fields_at texts cs i))
  pub target : sets out₀ from (message_bytes (fields_at texts cs 0)) ≡ sets out at (message_bytes (fields_at texts cs i))

abbrev pub invariant-loop-component : goal.invariant-loop-component
invariant-loop-component l = Left l.initial.out l.from l.texts l.components l.out l.at l.component-index
