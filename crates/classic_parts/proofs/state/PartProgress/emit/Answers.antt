use mathlib.Core.Path.{sym, ◌∙◌}
use Rattle.classic_parts.proofs.Filling.{plain-pending}
use Rattle.classic_parts.specs.Byte.{byte_of}
use Rattle.classic_parts.proofs.state.PartProgress.emit.Goals as goal

pub returns-in-Start : goal.returns-in-Start
unfolding byte_of
returns-in-Start c = rw c.in-Start.is c.own.ensures

pub returns-in-End : goal.returns-in-End
unfolding byte_of
returns-in-End c = rw c.in-End.is c.own-in-End.ensures

pub returns-in-Escape : goal.returns-in-Escape
unfolding byte_of
returns-in-Escape c = rw c.in-Escape.is c.own-in-Escape.ensures

pub returns-in-Plain : goal.returns-in-Plain
unfolding byte_of
returns-in-Plain c = c.stage_byte.ensures ∙ sym (plain-pending _ _ c.in-Plain.is)
