use Rattle.classic_extractor.proofs.state.Progress.at_body.Goals as goal

pub returns-in-Start : goal.returns-in-Start
returns-in-Start c = λ limit e. rw (c.in-Start.is, c.restart.ensures)

pub returns-in-Ok : goal.returns-in-Ok
returns-in-Ok c = λ limit e. rw (c.in-End.is, ← c.end.ensures, c.in-Ok.is, c.outside.ensures)

pub returns-in-Err : goal.returns-in-Err
returns-in-Err c = λ limit e. rw (c.in-End.is, ← c.end.ensures, c.in-Err.is, c.drop_frame.ensures)

pub returns-in-Escape : goal.returns-in-Escape
returns-in-Escape c = λ limit e. rw (c.in-Escape.is, c.go_on.ensures)

pub returns-in-Plain : goal.returns-in-Plain
returns-in-Plain c = λ limit e.
    rw c.in-Plain.is (c.store.ensures limit e)
