use Rattle.ble_sender_claims.proofs.CallsGiveAll.{takes_all, calls-give-all}
use Rattle.ble_sender_claims.proofs.calls_give_all.Goals as goal

pub returns : goal.returns
returns c = (takes_all, calls-give-all)
