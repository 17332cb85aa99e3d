use Rattle.capture_judge.specs.Input.{input_of}
use Rattle.capture_judge.proofs.input.judge_input.Goals as goal

pub returns : goal.returns
unfolding input_of
returns c = rw (← c.trace_input.ensures) c.answer_of.ensures
