use Rattle.classic_extractor.proofs.state.Progress.at_outside.Goals as goal

pub returns-in-Start : goal.returns-in-Start
returns-in-Start c = λ limit l b. rw (c.in-Start.is, c.go_on.ensures)

pub returns-in-End : goal.returns-in-End
returns-in-End c = λ limit l b. rw (c.in-End.is, c.skip.ensures)

pub returns-in-Escape : goal.returns-in-Escape
returns-in-Escape c = λ limit l b. rw (c.in-Escape.is, c.skip-in-Escape.ensures)

pub returns-in-Plain : goal.returns-in-Plain
returns-in-Plain c = λ limit l b. rw (c.in-Plain.is, c.skip-in-Plain.ensures)
