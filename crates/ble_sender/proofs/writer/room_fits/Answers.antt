use Rattle.ble_sender.specs.Writer.{room_fits}
use Rattle.ble_sender.proofs.writer.room_fits.Goals as goal

pub returns : goal.returns
unfolding room_fits
returns c = cc
