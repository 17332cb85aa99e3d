use Rattle.classic_extractor.proofs.state.Progress.at_header.Goals as goal

pub returns-in-Start : goal.returns-in-Start
returns-in-Start c = λ limit l. rw (c.in-Start.is, c.restart.ensures)

pub returns-in-End : goal.returns-in-End
returns-in-End c = λ limit l. rw (c.in-End.is, c.drop_frame.ensures)

pub returns-in-Escape : goal.returns-in-Escape
returns-in-Escape c = λ limit l. rw (c.in-Escape.is, c.drop_frame-in-Escape.ensures)

pub returns-in-Plain : goal.returns-in-Plain
returns-in-Plain c = λ limit l. rw c.in-Plain.is (c.expect.ensures limit l)
