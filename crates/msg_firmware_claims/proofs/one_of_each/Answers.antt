use Rattle.msg_firmware_claims.proofs.Premises.{one-of-each}
use Rattle.msg_firmware_claims.proofs.one_of_each.Goals as goal

pub returns : goal.returns
returns c = one-of-each
