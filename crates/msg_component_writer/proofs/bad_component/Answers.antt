use Rattle.msg_component_writer.specs.Component.{bad_component}
use Rattle.msg_component_writer.proofs.bad_component.Goals as goal

pub returns : goal.returns
unfolding bad_component
returns c = cc
