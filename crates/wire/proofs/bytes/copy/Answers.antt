use native.Mathlib.Nat.{add-zero}
use native.Mathlib.Omega.{arith}
use Prim.Native.Nat.{◌+◌, ◌-◌}
use mathlib.Core.Path.{refl, sym, ◌∙◌}
use lib.ListN.{get_or, length-set}
use borrow.Author.Rules.{rules}
use Rattle.wire.proofs.Stores.{sets-step, sets_end}
use Rattle.wire.proofs.bytes.copy.Goals as goal

pub loop-i-init : goal.loop-i-init
loop-i-init c = (search rules, refl, rw add-zero)

pub loop-i-preserved : goal.loop-i-preserved
loop-i-preserved c = (
  omega arith,
  length-set c.loop-i.out (c.args.at + c.loop-i.i) (get_or c.args.run.now c.loop-i.i 0) ∙ c.loop-i.invariant.1,
  sets-step c.loop-i.out c.args.run.now c.args.at c.loop-i.i (search rules) ∙ c.loop-i.invariant.2,
)

pub returns : goal.returns
returns c =
    sym (sets_end c.loop-i.out c.args.run.now (c.args.at + c.loop-i.i) c.loop-i.i (search rules)) ∙ c.loop-i.invariant.2
