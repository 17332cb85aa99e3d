use Rattle.capture_packet.specs.Place.{bad_place}
use Rattle.capture_packet.proofs.bad_place.Goals as goal

pub returns : goal.returns
unfolding bad_place
returns c = c.either.ensures
