use Rattle.worked_calls.proofs.Receiving.{receiving-calls}
use Rattle.worked_calls.proofs.receiving_calls.Goals as goal

pub returns : goal.returns
returns c = receiving-calls
