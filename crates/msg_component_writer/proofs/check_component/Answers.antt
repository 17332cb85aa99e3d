use Rattle.msg_component_writer.proofs.Inside.{component-fine}
use Rattle.msg_component_writer.proofs.check_component.Goals as goal

pub check_text_part-requires : goal.check_text_part-requires
check_text_part-requires c = (component-fine c.args.texts.now c.args.component c.requires).0

pub check_text_part-requires-2 : goal.check_text_part-requires-2
check_text_part-requires-2 c = (component-fine c.args.texts.now c.args.component c.requires).1
