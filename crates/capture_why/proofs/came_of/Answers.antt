use Rattle.capture_why.specs.Why.{came_of}
use Rattle.capture_why.proofs.came_of.Goals as goal

pub returns : goal.returns
unfolding came_of
returns c =
    rw (
      c.came_by.ensures,
      c.byte_at-2.ensures,
      c.byte_at.ensures,
      c.read_numbers-read.ensures,
      c.read.ensures,
    )
