use Rattle.outbox_claims.proofs.CutsAreFound.{cuts-are-found}
use Rattle.outbox_claims.proofs.cuts_are_found.Goals as goal

pub returns : goal.returns
returns c = cuts-are-found
