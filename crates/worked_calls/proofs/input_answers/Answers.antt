use Rattle.worked_calls.proofs.Inputs.{input-answers}
use Rattle.worked_calls.proofs.input_answers.Goals as goal

pub returns : goal.returns
returns c = input-answers
