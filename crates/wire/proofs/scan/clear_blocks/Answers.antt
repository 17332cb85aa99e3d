use Prim.Native.Nat.{◌-◌}
use mathlib.Core.Path.{sym, ◌∙◌}
use Rattle.wire.proofs.Runs.{clear-block, clear_none}
use borrow.Author.Rules.{rules}
use Rattle.wire.proofs.scan.clear_blocks.Goals as goal

pub loop-i-init : goal.loop-i-init
loop-i-init c = clear_none

pub returns-then-any_in_range : goal.returns-then-any_in_range
returns-then-any_in_range c = c.loop-i.invariant

pub loop-i-preserved : goal.loop-i-preserved
loop-i-preserved c = clear-block c.loop-i.invariant _ (search rules) (search rules) (sym c.any_in_range.ensures ∙ c.if-any_in_range.false)

pub returns : goal.returns
returns c = c.loop-i.invariant
