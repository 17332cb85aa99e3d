use mathlib.Core.Path.{refl}
use Rattle.utf8.specs.Table.{rows, within, row_of}
use Rattle.utf8.specs.WellFormed.{sequence_at, bad_place}
use Rattle.utf8.proofs.claims.worked_strings.Goals as goal

pub returns : goal.returns
unfolding rows within row_of sequence_at bad_place
returns c = record { whole = refl; bad = refl }
