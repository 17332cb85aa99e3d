use native.Mathlib.Omega.{arith}
use Rattle.c_classic_parts.specs.Convert.{state_of}
use Rattle.c_classic_parts.proofs.States.{state-long, sequence-small, sum-small}
use Rattle.c_classic_parts.proofs.convert.state_of.Goals as goal

pub bounds-row-5 : goal.bounds-row-5
bounds-row-5 c = omega (arith, state-long c.args.row.now c.requires)

pub bounds-row-6 : goal.bounds-row-6
bounds-row-6 c = omega (arith, state-long c.args.row.now c.requires)

pub bounds-row-1 : goal.bounds-row-1
bounds-row-1 c = omega (arith, state-long c.args.row.now c.requires)

pub overflow_cast-sequence : goal.overflow_cast-sequence
overflow_cast-sequence c = record { fits = sequence-small c.args.row.now c.requires }

pub bounds-row-2 : goal.bounds-row-2
bounds-row-2 c = omega (arith, state-long c.args.row.now c.requires)

pub bounds-row-3 : goal.bounds-row-3
bounds-row-3 c = omega (arith, state-long c.args.row.now c.requires)

pub bounds-row-4 : goal.bounds-row-4
bounds-row-4 c = omega (arith, state-long c.args.row.now c.requires)

pub overflow_cast-sum : goal.overflow_cast-sum
overflow_cast-sum c = record { fits = sum-small c.args.row.now c.requires }

pub bounds-row-0 : goal.bounds-row-0
bounds-row-0 c = omega (arith, state-long c.args.row.now c.requires)

pub returns : goal.returns
unfolding state_of
returns c = rw (c.stage_of-stage.ensures, c.pending_of-pending.ensures)
