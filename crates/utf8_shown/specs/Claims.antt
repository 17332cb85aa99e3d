-- What is hidden is a character: in a well-formed string its place is one at which a sequence begins.
use Rattle.std.specs.Prelude.{ℕ, List, take}
use Rattle.utf8.specs.WellFormed.{WellFormed}
use Rattle.utf8_shown.specs.Shown.{hidden_place}

unfoldable pub HiddenBegins : Type 0
HiddenBegins = (s : List ℕ) → WellFormed s → WellFormed (take (hidden_place s) s)
