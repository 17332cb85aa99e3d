-- The toolkit's functions at the ends of their ranges, by computation.
use mathlib.Core.Path.{refl}
use Rattle.worked_calls.specs.Toolkit.{ToolkitEnds, toolkit_rows}

pub toolkit-ends : ToolkitEnds
unfolding ToolkitEnds toolkit_rows
toolkit-ends = refl
