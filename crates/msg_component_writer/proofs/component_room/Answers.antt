use Rattle.msg_component_writer.proofs.Inside.{component-fine}
use borrow.Author.Rules.{rules}
use Rattle.msg_component_writer.proofs.component_room.Goals as goal

pub text_part_len-requires : goal.text_part_len-requires
text_part_len-requires c =
    (search rules, (component-fine c.args.texts.now c.args.component c.requires).0)

pub text_part_len-requires-2 : goal.text_part_len-requires-2
text_part_len-requires-2 c =
    (search rules, (component-fine c.args.texts.now c.args.component c.requires).1)
