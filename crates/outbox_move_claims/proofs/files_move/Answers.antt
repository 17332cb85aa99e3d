use Rattle.outbox_move_claims.proofs.FilesMove.{files-move}
use Rattle.outbox_move_claims.proofs.files_move.Goals as goal

pub returns : goal.returns
returns c = files-move
