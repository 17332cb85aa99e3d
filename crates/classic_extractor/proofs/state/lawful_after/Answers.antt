use Rattle.classic_extractor.proofs.state.lawful_after.Goals as goal

pub returns : goal.returns
returns c = rw (← c.is_mark.ensures) c.both.ensures
