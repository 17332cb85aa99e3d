use mathlib.Core.Path.{refl}
use Rattle.wire.proofs.Runs.{seek-end}
use Rattle.utf8.proofs.Places.{seek-joined}
use borrow.Author.Rules.{rules}
use Rattle.utf8.proofs.check.any_above.Goals as goal

pub loop-b-init : goal.loop-b-init
loop-b-init c = record { within = search rules; rest = refl }

pub loop-b-preserved : goal.loop-b-preserved
loop-b-preserved c = seek-joined c.loop-b.joined c.loop-b.invariant (search rules) (c.type_inv.run c.loop-b.b-index).fits

pub returns : goal.returns
returns c = seek-end c.loop-b.invariant (search rules)
