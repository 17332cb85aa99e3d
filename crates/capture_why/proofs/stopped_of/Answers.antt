use Rattle.capture_why.specs.Why.{stopped_of}
use Rattle.capture_why.proofs.stopped_of.Goals as goal

pub returns : goal.returns
unfolding stopped_of
returns c = rw (c.expected_of-expected.ensures, c.came_of-came.ensures)
