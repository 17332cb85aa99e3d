use Rattle.outbox.specs.Reader.{bad_place}
use Rattle.outbox.proofs.reader.bad_place.Goals as goal

pub returns : goal.returns
unfolding bad_place
returns c = c.either.ensures
