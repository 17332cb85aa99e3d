use Rattle.outbox_claims.proofs.Versions.{lawful-one, lawful-two}
use Rattle.outbox_claims.proofs.versions_are_lawful.Goals as goal

pub returns : goal.returns
returns c = (lawful-one, lawful-two)
