use Rattle.capture_judge.specs.Capture.{judged_of}
use Rattle.capture_judge.proofs.capture.judge_capture.Goals as goal

pub returns : goal.returns
unfolding judged_of
returns c = rw (← c.trace.ensures) c.answer_of.ensures
