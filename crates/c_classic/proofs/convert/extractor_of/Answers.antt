use native.Mathlib.Omega.{arith}
use Rattle.c_classic.specs.Convert.{extractor_of}
use Rattle.c_classic.proofs.States.{state-long, sequence-small}
use Rattle.c_classic.proofs.convert.extractor_of.Goals as goal

pub bounds-row-1 : goal.bounds-row-1
bounds-row-1 c = omega (arith, state-long c.args.row.now c.requires)

pub bounds-row-2 : goal.bounds-row-2
bounds-row-2 c = omega (arith, state-long c.args.row.now c.requires)

pub overflow_cast-sequence : goal.overflow_cast-sequence
overflow_cast-sequence c = record { fits = sequence-small c.args.row.now c.requires }

pub bounds-row-3 : goal.bounds-row-3
bounds-row-3 c = omega (arith, state-long c.args.row.now c.requires)

pub bounds-row-0 : goal.bounds-row-0
bounds-row-0 c = omega (arith, state-long c.args.row.now c.requires)

pub returns : goal.returns
unfolding extractor_of
returns c = rw c.phase_of-phase.ensures
