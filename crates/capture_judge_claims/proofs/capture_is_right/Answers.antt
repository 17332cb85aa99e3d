use Rattle.capture_judge_claims.proofs.Captures.{capture-is-right, writable-all}
use Rattle.capture_judge_claims.proofs.capture_is_right.Goals as goal

pub returns : goal.returns
returns c = (capture-is-right, writable-all)
