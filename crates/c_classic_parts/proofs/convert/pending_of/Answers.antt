use native.Mathlib.Omega.{arith}
use borrow.Author.Tests.{ne_eqb}
use Rattle.c_classic_parts.specs.Convert.{pending_of}
use Rattle.c_classic_parts.proofs.convert.pending_of.Goals as goal

pub returns-in-1 : goal.returns-in-1
unfolding pending_of
returns-in-1 c = rw c.in-1.is

pub returns-in-2 : goal.returns-in-2
unfolding pending_of
returns-in-2 c = rw c.in-2.is

pub returns-in-3 : goal.returns-in-3
unfolding pending_of
returns-in-3 c = rw c.in-3.is

pub returns-in_default : goal.returns-in_default
unfolding pending_of
returns-in_default c =
    rw (ne_eqb c.args.n 1 (omega arith), ne_eqb c.args.n 2 (omega arith), ne_eqb c.args.n 3 (omega arith))
