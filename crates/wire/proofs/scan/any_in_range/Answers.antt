use mathlib.Core.Path.{refl, sym, ◌∙◌}
use Rattle.wire.proofs.Runs.{seek_hit, seek-miss, seek-end}
use borrow.Author.Rules.{rules}
use Rattle.wire.proofs.scan.any_in_range.Goals.{then-in_range, else-in_range}
use Rattle.wire.proofs.scan.any_in_range.Goals as goal

pub loop-b-init : goal.loop-b-init
loop-b-init c = record { within = search rules; rest = refl }

pub loop-b-preserved : goal.loop-b-preserved
loop-b-preserved c =
    elim c.if-in_range.branch [
      | then-in_range w ↦ seek_hit c.loop-b.invariant (search rules) (sym c.in_range.ensures ∙ w.if-in_range.true) w.found-is
      | else-in_range w ↦ seek-miss c.loop-b.invariant (search rules) (sym c.in_range.ensures ∙ w.if-in_range.false) w.found-is
    ]

pub returns : goal.returns
returns c = seek-end c.loop-b.invariant (search rules)
