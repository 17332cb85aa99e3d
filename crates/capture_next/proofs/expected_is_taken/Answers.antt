use Rattle.capture_next.proofs.Expected.{expected-is-taken}
use Rattle.capture_next.proofs.expected_is_taken.Goals as goal

pub returns : goal.returns
returns c = expected-is-taken
