use Rattle.capture_judge_claims.proofs.Inside.{open-is-inside}
use Rattle.capture_judge_claims.proofs.open_is_inside.Goals as goal

pub returns : goal.returns
returns c = open-is-inside
