use Rattle.classic_claims.proofs.Premises.{facts-suffice}
use Rattle.classic_claims.proofs.facts_suffice.Goals as goal

pub returns : goal.returns
returns c = facts-suffice
