use Rattle.utf8.specs.Table.{within}
use Rattle.utf8.proofs.table.is_within.Goals as goal

pub returns : goal.returns
unfolding within
returns c = c.both.ensures
