use Rattle.classic_parts.proofs.writer.stop.Goals as goal

pub returns : goal.returns
returns c = rw c.has_ended.ensures
