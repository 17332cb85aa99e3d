use Rattle.reply_claims.proofs.Instance.{arrives}
use Rattle.reply_claims.proofs.instance_arrives.Goals as goal

pub returns : goal.returns
returns c = arrives
