-- The ends of a limit's range, each in a state with a buffer of its own size.
use Rattle.std.specs.Prelude.{ℕ, ◌+◌, ◌*◌, ◌≡◌, Bool, true, false, List, [], ◌∷◌, map}
use Rattle.classic_extractor.specs.State.{outside}
use Rattle.classic_extractor.specs.State as extractor
use Rattle.ble_slot.specs.Slot.{slot_count, idles}
use Rattle.ble_receiver.specs.Receiver as receiver

abbrev ends : List ℕ
ends = 0 ∷ 1 ∷ 65535 ∷ 65536 ∷ []

abbrev allowed : List Bool
allowed = false ∷ true ∷ true ∷ false ∷ []

-- any other is refused by 1, whatever comes
pub record LimitEnds : Type 0 where
  pub extractor : map (λ limit. extractor.ready limit outside (limit + 2)) ends ≡ allowed
  pub receiver : map (λ limit. receiver.ready limit idles (slot_count * limit)) ends ≡ allowed
