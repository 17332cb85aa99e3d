use mathlib.Core.Path.{sym, ◌∙◌}
use Rattle.wire.proofs.Runs.{clear-all, clear-byte}
use borrow.Author.Rules.{rules}
use Rattle.wire.proofs.scan.clear_from.Goals as goal

pub loop-i-init : goal.loop-i-init
loop-i-init c = c.requires

pub returns-then-in_range : goal.returns-then-in_range
returns-then-in_range c = c.loop-i.invariant

pub loop-i-preserved : goal.loop-i-preserved
loop-i-preserved c = clear-byte c.loop-i.invariant (search rules) (sym c.in_range.ensures ∙ c.if-in_range.false)

pub returns : goal.returns
returns c = clear-all c.loop-i.invariant c.loop-i-test.false
