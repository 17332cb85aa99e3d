use Rattle.classic_extractor.proofs.state.Progress.at_escaped.Goals as goal

pub returns-in-Start : goal.returns-in-Start
returns-in-Start c = λ limit e. rw (c.in-Start.is, c.restart.ensures)

pub returns-in-End : goal.returns-in-End
returns-in-End c = λ limit e. rw (c.in-End.is, c.drop_frame.ensures)

pub returns-in-Escape : goal.returns-in-Escape
returns-in-Escape c = λ limit e. rw (c.in-Escape.is, c.drop_frame-in-Escape.ensures)

pub returns-in-Plain : goal.returns-in-Plain
returns-in-Plain c = λ limit e.
    rw c.in-Plain.is (c.decode.ensures limit e)
