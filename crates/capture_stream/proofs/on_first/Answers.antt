use Rattle.capture_stream.proofs.on_first.Goals as goal

pub returns-in-Idle : goal.returns-in-Idle
returns-in-Idle c = rw c.in-Idle.is c.begin.ensures
