use native.Mathlib.Omega.{arith}
use mathlib.Core.Path.{ap, ◌∙◌}
use lib.Seq.{length-sets}
use lib.ListN.{length, length-set}
use Rattle.ble_sender.proofs.writer.put_total.Goals as goal

pub bounds-out-2 : goal.bounds-out-2
bounds-out-2 c = omega (arith, rw c.if-first.true at c.requires.0)

pub put_pair-requires : goal.put_pair-requires
put_pair-requires c =
    let h = rw c.if-first.true at c.requires.0 in (simp length-set (omega arith), c.requires.1)

pub shape_of-out : goal.shape_of-out
shape_of-out c = ap length c.put_pair.ensures ∙ simp (length-sets, length-set)

pub returns-then-first : goal.returns-then-first
returns-then-first c = rw c.if-first.true c.put_pair.ensures
