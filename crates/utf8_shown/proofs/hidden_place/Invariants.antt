use Prim.Native.Nat.{◌+◌}
use mathlib.Core.Path.{◌≡◌}
use lib.ListN.{drop}
use Rattle.utf8_shown.specs.Shown.{hidden_place}
use Rattle.utf8_shown.proofs.hidden_place.Given as goal

abbrev pub invariant-loop-at : goal.invariant-loop-at
invariant-loop-at l = hidden_place l.string ≡ l.at + hidden_place (drop l.at l.string)
