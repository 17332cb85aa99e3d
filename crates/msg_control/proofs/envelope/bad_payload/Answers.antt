use mathlib.Core.Path.{ap, ◌∙◌}
use mathlib.Core.Bool.{◌||◌}
use lib.Dec.{eqb}
use Rattle.msg_control.proofs.envelope.bad_payload.Goals as goal

pub returns-in-Member : goal.returns-in-Member
returns-in-Member c = rw c.in-Member.is (c.either.ensures ∙ ap (λ b. b || eqb c.in-Member.field 9) c.bad_member.ensures)
