use Rattle.classic_feed.proofs.fast_path.is_header.Goals as goal

pub returns : goal.returns
returns c = rw (← c.is_mark.ensures, ← c.both-tail.ensures, ← c.both.ensures) c.both-2.ensures
