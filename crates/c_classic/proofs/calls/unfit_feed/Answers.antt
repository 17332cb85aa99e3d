use mathlib.Core.Path.{refl}
use borrow.Author.Tests.{eq-eqb}
use Rattle.c_classic.specs.Calls.{none_used}
use Rattle.c_classic.proofs.calls.unfit_feed.Goals as goal

pub returns : goal.returns
unfolding none_used
returns c = rw (eq-eqb _ _ c.requires, c.write_row.ensures) (refl, refl)
