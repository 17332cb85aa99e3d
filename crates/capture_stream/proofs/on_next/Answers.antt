use Rattle.capture_stream.proofs.on_next.Goals as goal

pub returns-in-Open : goal.returns-in-Open
returns-in-Open c = rw c.in-Open.is c.follow.ensures
