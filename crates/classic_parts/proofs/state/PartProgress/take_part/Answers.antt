use mathlib.Core.Path.{sym, ◌∙◌}
use borrow.Author.Tests.{eq-eqb, ne_eqb, lt-ltb, le-ltb}
use Rattle.classic_parts.proofs.state.PartProgress.take_part.Goals as goal

pub returns-then-not-is_lawful : goal.returns-then-not-is_lawful
returns-then-not-is_lawful c = rw (sym c.is_lawful.ensures ∙ c.if-not-is_lawful.true, c.refuse.ensures)

pub returns-then-missing-payload : goal.returns-then-missing-payload
returns-then-missing-payload c =
    rw (sym c.is_lawful.ensures ∙ c.if-not-is_lawful.false, lt-ltb _ _ (rw c.missing.ensures at c.if-missing-payload.true), c.refuse-then-missing-payload.ensures)

pub returns-then-out-eq0 : goal.returns-then-out-eq0
returns-then-out-eq0 c =
    rw (sym c.is_lawful.ensures ∙ c.if-not-is_lawful.false, le-ltb _ _ (rw c.missing.ensures at c.if-missing-payload.false), eq-eqb _ _ c.if-out-eq0.true, c.refuse-then-out-eq0.ensures)

pub returns : goal.returns
returns c =
    rw (sym c.is_lawful.ensures ∙ c.if-not-is_lawful.false, le-ltb _ _ (rw c.missing.ensures at c.if-missing-payload.false), ne_eqb _ _ c.if-out-eq0.false) c.fill.ensures
