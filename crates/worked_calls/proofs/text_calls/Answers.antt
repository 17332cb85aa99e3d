use Rattle.worked_calls.proofs.Texts.{text-calls}
use Rattle.worked_calls.proofs.text_calls.Goals as goal

pub returns : goal.returns
returns c = text-calls
