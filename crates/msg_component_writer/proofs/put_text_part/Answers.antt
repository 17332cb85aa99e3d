use Rattle.msg_component_writer.proofs.put_text_part.Goals as goal

pub put_text-requires : goal.put_text-requires
put_text-requires c = (c.requires.0, rw c.part_of.ensures c.requires.2)

pub returns : goal.returns
returns c = rw c.part_of.ensures at c.put_text.ensures
