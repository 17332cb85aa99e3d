use Rattle.capture_tally.proofs.idle_row.Goals as goal

pub returns : goal.returns
returns c = rw c.idle.ensures
