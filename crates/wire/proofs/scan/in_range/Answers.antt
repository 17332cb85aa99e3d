use borrow.Author.Tests.{lt-ltb, le-ltb}
use Rattle.wire.specs.Scan.{in_range}
use Rattle.wire.proofs.scan.in_range.Goals as goal

pub returns-then-b-first : goal.returns-then-b-first
unfolding in_range
returns-then-b-first c = simp (lt-ltb _ _ c.if-b-first.true)

pub returns-else-b-first : goal.returns-else-b-first
unfolding in_range
returns-else-b-first c = simp (le-ltb _ _ c.if-b-first.false)
