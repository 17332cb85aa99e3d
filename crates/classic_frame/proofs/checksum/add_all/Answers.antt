use Rattle.std.proofs.Common.{sym, refl, ◌∙◌, arith, rules}
use Rattle.classic_frame.proofs.Sums.{sum_step, sum-end}
use Rattle.classic_frame.proofs.checksum.add_all.Goals as goal

pub loop-b-init : goal.loop-b-init
loop-b-init c = (search rules, search rules, refl)

pub loop-b-preserved : goal.loop-b-preserved
loop-b-preserved c = (
  omega arith,
  search rules,
  rw c.add_byte-after.ensures (sum_step 65536 c.loop-b.after _ c.loop-b.b-index (search rules) ∙ c.loop-b.invariant.2),
)

pub returns : goal.returns
returns c =
    sym (sum-end 65536 c.loop-b.after _ c.loop-b.b-index (search rules) (search rules)) ∙ c.loop-b.invariant.2
