use Rattle.capture_judge_claims.proofs.Example.{rows-hold, judged-by-hand}
use Rattle.capture_judge_claims.proofs.worked_inputs.Goals as goal

pub returns : goal.returns
returns c = (rows-hold, judged-by-hand)
