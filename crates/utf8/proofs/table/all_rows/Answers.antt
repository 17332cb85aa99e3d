use mathlib.Core.Path.{refl}
use Rattle.utf8.specs.Table.{rows}
use Rattle.utf8.proofs.table.all_rows.Goals as goal

pub returns : goal.returns
unfolding rows
returns c = refl
