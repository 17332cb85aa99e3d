use Rattle.classic_extractor.proofs.phase.restart.Goals as goal

pub returns : goal.returns
returns c = rw (c.refuse.ensures, c.begun.ensures)
