use Rattle.worked_calls.proofs.Classic.{classic-calls}
use Rattle.worked_calls.proofs.classic_calls.Goals as goal

pub returns : goal.returns
returns c = classic-calls
