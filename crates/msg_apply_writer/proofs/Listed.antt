-- Laws of components in a list: the one at a place, and those from a place on.
use Prim.Native.Nat.{ℕ, ◌+◌, ◌≤◌, ◌<◌}
use mathlib.Core.Path.{◌≡◌}
use mathlib.Core.List.{List, [], ◌∷◌}
use native.Mathlib.Numerals.{add-one}
use lib.ListN.{length, drop, get_or, drop_of_length-le}
use lib.Seq.{drop-cons}
use Rattle.msg_firmware.specs.declared.component.FirmwareComponent.{FirmwareComponent}
use Rattle.msg_firmware.specs.Component.{no_component}

module _ (cs : List FirmwareComponent) (i : ℕ) where
  -- those from index i on
  pub listed_here : i < length cs → drop i cs ≡ get_or cs i no_component ∷ drop (i + 1) cs
  listed_here h = rw add-one (drop-cons cs i no_component h)

  pub listed-end : length cs ≤ i → drop i cs ≡ []
  listed-end h = drop_of_length-le cs {i = i} h
