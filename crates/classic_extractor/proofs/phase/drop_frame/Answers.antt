use Rattle.classic_extractor.proofs.phase.drop_frame.Goals as goal

pub returns : goal.returns
returns c = rw (c.refuse.ensures, c.outside.ensures)
