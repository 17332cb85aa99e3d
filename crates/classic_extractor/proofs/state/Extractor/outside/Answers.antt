use Rattle.classic_extractor.proofs.state.Extractor.outside.Goals as goal

pub returns : goal.returns
returns c = rw c.outside-progress.ensures
