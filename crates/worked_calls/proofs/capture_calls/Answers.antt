use Rattle.worked_calls.proofs.Captures.{capture-calls}
use Rattle.worked_calls.proofs.capture_calls.Goals as goal

pub returns : goal.returns
returns c = capture-calls
