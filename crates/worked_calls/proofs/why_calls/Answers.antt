use Rattle.worked_calls.proofs.Whys.{why-calls}
use Rattle.worked_calls.proofs.why_calls.Goals as goal

pub returns : goal.returns
returns c = why-calls
