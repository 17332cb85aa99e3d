use Rattle.std.proofs.Common.{ne_eqb, arith}
use Rattle.classic_frame.specs.Frame.{mark_for}
use Rattle.classic_frame.proofs.mark.mark_for.Goals as goal

pub returns-in-2 : goal.returns-in-2
unfolding mark_for
returns-in-2 c = rw c.in-2.is

pub returns-in-3 : goal.returns-in-3
unfolding mark_for
returns-in-3 c = rw c.in-3.is

pub returns-in-0 : goal.returns-in-0
unfolding mark_for
returns-in-0 c = rw c.in-0.is

pub returns-in_default : goal.returns-in_default
unfolding mark_for
returns-in_default c = rw (ne_eqb c.args.code 2 (omega arith), ne_eqb c.args.code 3 (omega arith), ne_eqb c.args.code 0 (omega arith))
