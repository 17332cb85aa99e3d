use Rattle.capture_judge.specs.Step.{step_of}
use Rattle.capture_judge.proofs.step.judge_packet.Goals as goal

pub returns-in-Err : goal.returns-in-Err
unfolding step_of
returns-in-Err c =
    rw (← c.read-answer.ensures, c.in-Err.is)

pub returns-in-Ok : goal.returns-in-Ok
unfolding step_of
returns-in-Ok c =
    rw (← c.read-answer.ensures, c.in-Ok.is) c.step.ensures
