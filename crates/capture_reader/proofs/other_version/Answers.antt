use Rattle.capture_reader.specs.Capture.{other_version}
use Rattle.capture_reader.proofs.other_version.Goals as goal

pub returns : goal.returns
unfolding other_version
returns c = rw (c.either.ensures, c.byte_at.ensures)
