use Rattle.classic_parts.proofs.state.bad_start.Goals as goal

pub returns : goal.returns
returns c = rw (c.either.ensures, c.is_mark.ensures)
