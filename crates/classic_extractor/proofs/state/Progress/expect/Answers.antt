use borrow.Author.Tests.{eq-eqb, ne_eqb}
use Rattle.classic_extractor.proofs.state.Progress.expect.Goals as goal

pub returns-then-b-wanted : goal.returns-then-b-wanted
returns-then-b-wanted c = λ limit l. simp (eq-eqb _ _ c.if-b-wanted.true, c.go_on.ensures)

pub returns-else-b-wanted : goal.returns-else-b-wanted
returns-else-b-wanted c = λ limit l. simp (ne_eqb _ _ c.if-b-wanted.false, c.drop_frame.ensures)
