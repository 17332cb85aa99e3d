use Rattle.std.proofs.Common.{eq-eqb, ne_eqb}
use Rattle.classic_frame.specs.Mark.{kind_of}
use Rattle.classic_frame.proofs.mark.kind_of.Goals as goal

pub returns-then-b-eq-START : goal.returns-then-b-eq-START
unfolding kind_of
returns-then-b-eq-START c = simp (eq-eqb _ _ c.if-b-eq-START.true)

pub returns-then-b-eq-END : goal.returns-then-b-eq-END
unfolding kind_of
returns-then-b-eq-END c = simp (ne_eqb _ _ c.if-b-eq-START.false, eq-eqb _ _ c.if-b-eq-END.true)

pub returns-then-b-eq-ESCAPE : goal.returns-then-b-eq-ESCAPE
unfolding kind_of
returns-then-b-eq-ESCAPE c = simp (ne_eqb _ _ c.if-b-eq-START.false, ne_eqb _ _ c.if-b-eq-END.false, eq-eqb _ _ c.if-b-eq-ESCAPE.true)

pub returns : goal.returns
unfolding kind_of
returns c = simp (ne_eqb _ _ c.if-b-eq-START.false, ne_eqb _ _ c.if-b-eq-END.false, ne_eqb _ _ c.if-b-eq-ESCAPE.false)
