use Rattle.ble_sender.specs.Writer.{arguments_fit}
use Rattle.ble_sender.proofs.writer.arguments_fit.Goals as goal

pub returns : goal.returns
unfolding arguments_fit
returns c = cc
