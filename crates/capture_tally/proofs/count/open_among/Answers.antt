use native.Mathlib.Omega.{arith}
use Rattle.capture_tally.proofs.Counting.{open-four}
use Rattle.capture_tally.proofs.count.open_among.Goals as goal

pub overflow_add-result : goal.overflow_add-result
overflow_add-result c = omega (arith, c.bit64-d.ensures.1, c.bit64-c.ensures.1, c.bit64-b.ensures.1, c.bit64-a.ensures.1)

pub overflow_add-result-2 : goal.overflow_add-result-2
overflow_add-result-2 c = omega (arith, c.bit64-d.ensures.1, c.bit64-c.ensures.1, c.bit64-b.ensures.1, c.bit64-a.ensures.1)

pub overflow_add-result-3 : goal.overflow_add-result-3
overflow_add-result-3 c = omega (arith, c.bit64-d.ensures.1, c.bit64-c.ensures.1, c.bit64-b.ensures.1, c.bit64-a.ensures.1)

pub returns : goal.returns
returns c =
    rw (
      c.bit64-d.ensures.0,
      c.opens-4.ensures,
      c.bit64-c.ensures.0,
      c.opens-3.ensures,
      c.bit64-b.ensures.0,
      c.opens-2.ensures,
      c.bit64-a.ensures.0,
      c.opens.ensures,
    )
    (open-four c.args.lane c.well_formed.0.1.0.1)
