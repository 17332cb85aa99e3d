use mathlib.Core.Path.{refl}
use Rattle.reply.proofs.front_for.Goals as goal

pub returns : goal.returns
returns c = record { value = refl; code = c.code_of-code.ensures; member = c.member_of-member.ensures; body = refl }
