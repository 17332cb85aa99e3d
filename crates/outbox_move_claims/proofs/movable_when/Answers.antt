use Rattle.outbox_move_claims.proofs.Premises.{movable-when}
use Rattle.outbox_move_claims.proofs.movable_when.Goals as goal

pub returns : goal.returns
returns c = movable-when
