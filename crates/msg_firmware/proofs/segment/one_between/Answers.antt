use mathlib.Core.Path.{sym, ap, ◌∙◌}
use mathlib.Core.Bool.{Bool, cond}
use native.Mathlib.Omega.{arith}
use Rattle.msg_firmware.proofs.segment.one_between.Goals as goal

pub returns-then-both : goal.returns-then-both
returns-then-both c = (sym (ap (λ (b : Bool). cond b 1 0) (sym c.both.ensures ∙ c.if-both.true)), omega arith)

pub returns-else-both : goal.returns-else-both
returns-else-both c = (sym (ap (λ (b : Bool). cond b 1 0) (sym c.both.ensures ∙ c.if-both.false)), omega arith)
