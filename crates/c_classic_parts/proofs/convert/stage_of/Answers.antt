use native.Mathlib.Omega.{arith}
use borrow.Author.Tests.{ne_eqb}
use Rattle.c_classic_parts.specs.Convert.{stage_of}
use Rattle.c_classic_parts.proofs.convert.stage_of.Goals as goal

pub returns-in-0 : goal.returns-in-0
unfolding stage_of
returns-in-0 c = rw c.in-0.is

pub returns-in-1 : goal.returns-in-1
unfolding stage_of
returns-in-1 c = rw c.in-1.is

pub returns-in-2 : goal.returns-in-2
unfolding stage_of
returns-in-2 c = rw c.in-2.is

pub returns-in-3 : goal.returns-in-3
unfolding stage_of
returns-in-3 c = rw c.in-3.is

pub returns-in-4 : goal.returns-in-4
unfolding stage_of
returns-in-4 c = rw c.in-4.is

pub returns-in-5 : goal.returns-in-5
unfolding stage_of
returns-in-5 c = rw c.in-5.is

pub returns-in-6 : goal.returns-in-6
unfolding stage_of
returns-in-6 c = rw c.in-6.is

pub returns-in_default : goal.returns-in_default
unfolding stage_of
returns-in_default c =
    rw (ne_eqb c.args.n 0 (omega arith), ne_eqb c.args.n 1 (omega arith), ne_eqb c.args.n 2 (omega arith), ne_eqb c.args.n 3 (omega arith), ne_eqb c.args.n 4 (omega arith), ne_eqb c.args.n 5 (omega arith), ne_eqb c.args.n 6 (omega arith))
